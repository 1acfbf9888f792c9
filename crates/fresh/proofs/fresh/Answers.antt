-- `fresh::fresh` meets its contract: one law for each return.
-- Assumes nothing.
use Rattle.laws.proofs.Results.{err_is, bytes_in}
use Rattle.fresh.proofs.Five.{refused_1, refused_2, refused_3, refused_6, refused_7, five_fit, short, written}
use Rattle.fresh.proofs.fresh.Goals as goal

pub returns-in_err-required : goal.returns-in_err-required
returns-in_err-required c = rw (err_is _ _ c.from_residual.ensures.1) (refused_1 c.args.box10 c.args.year c.args.month c.args.x c.args.y c.args.out.now _ c.in_err-required.ensures)

pub returns-in_err-required-2 : goal.returns-in_err-required-2
returns-in_err-required-2 c = rw (err_is _ _ c.from_residual-in_err-required-2.ensures.1) (refused_2 c.args.box10 c.args.year c.args.month c.args.x c.args.y c.args.out.now _ c.in_ok-required.ensures _ c.in_err-required-2.ensures)

pub returns-in_err-required-3 : goal.returns-in_err-required-3
returns-in_err-required-3 c = rw (err_is _ _ c.from_residual-in_err-required-3.ensures.1) (refused_3 c.args.box10 c.args.year c.args.month c.args.x c.args.y c.args.out.now _ c.in_ok-required.ensures _ c.in_ok-required-2.ensures _ c.in_err-required-3.ensures)

pub returns-in_err-required-4 : goal.returns-in_err-required-4
returns-in_err-required-4 c = rw (err_is _ _ c.from_residual-in_err-required-4.ensures.1) (refused_6 c.args.box10 c.args.year c.args.month c.args.x c.args.y c.args.out.now _ c.in_ok-required.ensures _ c.in_ok-required-2.ensures _ c.in_ok-required-3.ensures _ c.in_err-required-4.ensures)

pub returns-in_err-required-5 : goal.returns-in_err-required-5
returns-in_err-required-5 c = rw (err_is _ _ c.from_residual-in_err-required-5.ensures.1) (refused_7 c.args.box10 c.args.year c.args.month c.args.x c.args.y c.args.out.now _ c.in_ok-required.ensures _ c.in_ok-required-2.ensures _ c.in_ok-required-3.ensures _ c.in_ok-required-4.ensures _ c.in_err-required-5.ensures)

pub returns-then-out-lt38 : goal.returns-then-out-lt38
returns-then-out-lt38 c = short c.args.box10 c.args.year c.args.month c.args.x c.args.y c.args.out.now _ c.in_ok-required.ensures _ c.in_ok-required-2.ensures _ c.in_ok-required-3.ensures _ c.in_ok-required-4.ensures _ c.in_ok-required-5.ensures c.if-out-lt38.true

pub write_fresh-requires : goal.write_fresh-requires
write_fresh-requires c = (c.if-out-lt38.false, five_fit c.args.box10 c.args.year c.args.month c.args.x c.args.y c.args.out.now _ c.in_ok-required.ensures _ c.in_ok-required-2.ensures _ c.in_ok-required-3.ensures _ c.in_ok-required-4.ensures _ c.in_ok-required-5.ensures)

pub returns : goal.returns
returns c = written c.args.box10 c.args.year c.args.month c.args.x c.args.y c.args.out.now _ c.in_ok-required.ensures _ c.in_ok-required-2.ensures _ c.in_ok-required-3.ensures _ c.in_ok-required-4.ensures _ c.in_ok-required-5.ensures _ c.if-out-lt38.false (bytes_in _ c.type_inv.out) c.write_fresh.ensures
