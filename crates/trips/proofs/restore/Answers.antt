-- `trips::restore` meets its contract: the report judged first.
-- Assumes nothing.
use Rattle.trips.proofs.Trips.{report_no_room}
use Rattle.trips.proofs.restore.Goals as goal

pub returns-then-out-size : goal.returns-then-out-size
returns-then-out-size c = report_no_room _ _ _ _ _ _ c.in_ok-size.ensures.0 c.if-out-size.true
