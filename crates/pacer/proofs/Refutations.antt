-- Wrong readings of log G that the promise of a query with its reader rejects, each by the clause that its comment names. Assumes
-- nothing.
use Prim.Native.Nat.{ℕ}
use mathlib.Core.List.{List, map}
use Rattle.std.specs.Prelude.{Result}
use mathlib.Core.Path.{◌≡◌, sym, ap, ◌∙◌, subst}
use native.Mathlib.Omega.{arith}
use Rattle.model.specs.Log.{greatest_kind, value}
use Rattle.model.specs.Slot.{by_bound, by_windows}
use Rattle.model.specs.Questions.{refused, accepted}
use Rattle.model.specs.Calls.{Header, reading_case}
use Rattle.model.specs.Arrays.{rows_in}
use Rattle.model.specs.Guarantee.{BestOfLimit}
use Rattle.model.specs.Fitting.{whole, row_lists}
use Rattle.model.specs.declared.Bound.TheVariants.{Rows}
use Rattle.model.specs.declared.Query.{Query}
use Rattle.model.specs.declared.Reading.{Reading}
use Rattle.model.specs.declared.Refusal.{Refusal}
use Rattle.model.proofs.Cases.{log_g, bytes, query}
use Rattle.theory.proofs.Refusals.{accepted≢refused, accepted_inj}
use Rattle.theory.proofs.Refutations.{decoded, runs_g, one_row_per_run}
use Rattle.theory.proofs.RefutedGreatest.{short_g3, rows_fall_short}
use Rattle.pacer.specs.Promises.{rows_given, BestReading}

module _ (reading : Result Reading Refusal) where
  -- the header that the reader returns is that of the reading
  same_header : {q : Query} {log : List ℕ} {h : Header} → reading_case reading ≡ accepted h → (b : BestReading q log reading)
      → record { mark = by_bound; kind = q.kind; error = b.error; rows = b.count } ≡ h
  same_header is b = accepted_inj (sym b.header ∙ is)

  -- a refusal, a slot of rows by windows, and one of another kind (header)
  pub reading_refused : (q : Query) (log : List ℕ) (number index : ℕ) → reading_case reading ≡ refused number index
      → BestReading q log reading → ⊥
  reading_refused q log number index is b = accepted≢refused (sym b.header ∙ is)

  pub reading_by_windows : (q : Query) (log : List ℕ) (kind error rows : ℕ)
      → reading_case reading ≡ accepted (record { mark = by_windows; kind = kind; error = error; rows = rows })
      → BestReading q log reading → ⊥
  reading_by_windows q log kind error rows is b = omega (arith, ap (λ (h : Header). h.mark) (same_header is b))

  pub reading_of_another_kind : (log : List ℕ) (mark error rows : ℕ)
      → reading_case reading ≡ accepted (record { mark = mark; kind = 1; error = error; rows = rows })
      → BestReading (query 0 (Rows 4)) log reading → ⊥
  reading_of_another_kind log mark error rows is b = omega (arith, ap (λ (h : Header). h.kind) (same_header is b))

  -- one row per run, where four rows may be had (best)
  pub reading_not_best : reading_case reading ≡ accepted (record { mark = by_bound; kind = 0; error = 40087; rows = 3 })
      → rows_in (rows_given reading) 3 ≡ runs_g → BestReading (query 0 (Rows 4)) (bytes log_g) reading → ⊥
  reading_not_best is rows b =
      let same = same_header is b in
      let error : b.error ≡ 40087 = ap (λ (h : Header). h.error) same in
      let count : b.count ≡ 3 = ap (λ (h : Header). h.rows) same in
      one_row_per_run
      (subst (λ rs. BestOfLimit (row_lists 0 (value 0 1 rs)) 4 40087 (map whole runs_g)) decoded
      (rw (error, count, rows) at b.best))

  -- of kind 3, a row one below what a frame needs (neverShort)
  pub reading_falls_short : (error : ℕ)
      → reading_case reading ≡ accepted (record { mark = by_bound; kind = greatest_kind; error = error; rows = 3 })
      → rows_in (rows_given reading) 3 ≡ short_g3 → BestReading (query greatest_kind (Rows 3)) (bytes log_g) reading → ⊥
  reading_falls_short error is rows b =
      let count : b.count ≡ 3 = ap (λ (h : Header). h.rows) (same_header is b) in
      rows_fall_short (rw (count, rows) at b.never_short)
