-- `load_log::decode` meets its contract. The loop's invariant: there is a place for each record, and the arrays
-- hold the first ones. Assumes nothing.
use Prim.Native.Nat.{ℕ, ◌*◌, ◌/◌}
use mathlib.Core.List.{[], ◌∷◌, ◌++◌}
use mathlib.Core.Path.{◌≡◌, sym, ap, ◌∙◌}
use native.Mathlib.Numerals.{add-one}
use lib.ListN.{length}
use Rattle.model.specs.Common.{list_from}
use Rattle.model.specs.Spans.{Span}
use Rattle.model.specs.Log.{record_length, record_at, record_count, records}
use Rattle.model.specs.Questions.{most_records}
use Rattle.model.specs.Arrays.{record_arrays}
use Rattle.model.specs.Calls.{record_span}
use Rattle.theory.proofs.SlotLaws.{length-list_from}
use Rattle.theory.proofs.Lists.{list_from_snoc}
use Rattle.load_log.proofs.Columns.{record_stored}
use native.Mathlib.Omega.{arith}
use Rattle.load_log.proofs.decode.Goals as goal

pub loop-index-init : goal.loop-index-init
unfolding list_from record_count record_length most_records
loop-index-init c = (omega (arith, c.requires), c.none-records.ensures)

pub loop-index-preserved : goal.loop-index-preserved
unfolding record_span record_length
loop-index-preserved c =
    let i = c.loop-index.index in
    let few = c.loop-index.invariant.0 in
    let at : ℕ → Span ℕ = λ j. record_at c.args.log.now (9 * j) in (
      few,
      record_stored c.loop-index.records (list_from 0 i at) (record_span c.record_at-record.result) i
          c.loop-index.invariant.1 (length-list_from 0 i at) (omega arith)
          ∙ ap record_arrays
          (ap (λ (s : Span ℕ). list_from 0 i at ++ (s ∷ [])) c.record_at-record.ensures ∙ sym (list_from_snoc at i)
          ∙ ap (λ (n : ℕ). list_from 0 n at) (sym (add-one i))),
    )

pub returns : goal.returns
unfolding records record_count record_length
returns c =
    let n = length c.args.log.now / 9 in
    let done : c.loop-index.index ≡ n = omega arith in
    c.loop-index.invariant.1
    ∙ ap (λ (m : ℕ). record_arrays (list_from 0 m (λ i. record_at c.args.log.now (9 * i)))) done
