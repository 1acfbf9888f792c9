-- `checks::FieldWords::faults` meets its contract: the masks are those of the field table.
-- Assumes nothing.
use mathlib.Core.Path.{sym, ◌∙◌}
use Rattle.format.specs.Bits.{total}
use Rattle.format.specs.Field.{table, field_at, required}
use Rattle.format.specs.Observation.{widths}
use Rattle.checks.specs.Parts.{fields_a, fields_b, fields_c, fields_d, fields_e, part_at, picked, laid, tested, Passed}
use Rattle.checks.proofs.Parts.{or_zero, xor_zero, tested_none}
use Rattle.checks.proofs.FieldWords.faults.Goals as goal

pub returns : goal.returns
unfolding tested laid picked part_at total widths table field_at required
returns c z =
    let above = c.above-t in
    let above2 = c.above in
    let p₁₁ = or_zero _ _ z in
    let p₁₀ = or_zero _ _ p₁₁.0 in
    let p₉ = or_zero _ _ p₁₀.0 in
    let p₈ = or_zero _ _ p₉.0 in
    let p₇ = or_zero _ _ p₈.0 in
    let p₆ = or_zero _ _ p₇.0 in
    let p₅ = or_zero _ _ p₆.0 in
    let p₄ = or_zero _ _ p₅.0 in
    let p₃ = or_zero _ _ p₄.0 in
    let p₂ = or_zero _ _ p₃.0 in
    let p₁ = or_zero _ _ p₂.0 in
    let st = c.args.self in
    let a : Passed st.a fields_a =
    record {
      odds = sym above.ensures ∙ p₁.0;
      evens = sym above2.ensures ∙ p₁.1;
      odds_present = xor_zero _ _ (sym c.lacking.ensures ∙ p₁₀.1);
      evens_present = xor_zero _ _ (sym c.lacking-2.ensures ∙ p₁₁.1);
    } in
    let b : Passed st.b fields_b =
    record {
      odds = sym c.above-2.ensures ∙ p₂.1;
      evens = sym c.above-3.ensures ∙ p₃.1;
      odds_present = tested_none st.b;
      evens_present = tested_none st.b;
    } in
    let c' : Passed st.c fields_c =
    record {
      odds = sym c.above-4.ensures ∙ p₄.1;
      evens = sym c.above-5.ensures ∙ p₅.1;
      odds_present = tested_none st.c;
      evens_present = tested_none st.c;
    } in
    let d : Passed st.d fields_d =
    record {
      odds = sym c.above-6.ensures ∙ p₆.1;
      evens = sym c.above-7.ensures ∙ p₇.1;
      odds_present = tested_none st.d;
      evens_present = tested_none st.d;
    } in
    let e : Passed st.e fields_e =
    record {
      odds = sym c.above-8.ensures ∙ p₈.1;
      evens = sym c.above-9.ensures ∙ p₉.1;
      odds_present = tested_none st.e;
      evens_present = tested_none st.e;
    } in
    record { first = a; second = b; third = c'; fourth = d; fifth = e }
