-- A query's questions ahead of its rows, asked one part after the other: which part's 'no' is theirs. Assumes nothing.
use Prim.Native.Nat.{ℕ, ◌≤◌, ◌<◌}
use mathlib.Core.List.{List, [], ◌∷◌, ◌++◌}
use mathlib.Core.Path.{◌≡◌, ◌∙◌}
use borrow.Author.Tests.{le-leb, lt-leb}
use Rattle.model.specs.Slot.{slot_length}
use Rattle.model.specs.Questions.{Question, refused, accepted, outcome, ask, ask_room, kind_known, log_questions}
use Rattle.model.specs.Demands.{AllPass}
use Rattle.theory.proofs.Refusals.{all_append, all_outcome, outcome_behind, refused_first, refused_same}
use Rattle.preparing.specs.Prepared.{early_questions, ahead_of_rows}

module _ (kind room : ℕ) (rule : List Question) (log : List ℕ) where
  -- the room
  pub refused_room : room < slot_length → outcome (ahead_of_rows kind rule log room) kind ≡ refused 1 0
  unfolding outcome ahead_of_rows early_questions ask_room ask
  refused_room lt = rw (lt-leb slot_length room lt)

  module _ (long : slot_length ≤ room) where
    -- the kind
    pub refused_kind : {n i : ℕ} → outcome (ask 2 0 (kind_known kind) ∷ []) kind ≡ refused n i → outcome (ahead_of_rows kind rule log room) kind ≡ refused n i
    unfolding outcome ahead_of_rows early_questions ask_room ask
    refused_kind e = rw (le-leb slot_length room long) (refused_first (ask 2 0 (kind_known kind) ∷ []) (rule ++ log_questions log) kind kind _ _ e)

    module _ (known : AllPass (ask 2 0 (kind_known kind) ∷ [])) where
      early : outcome (ahead_of_rows kind rule log room) kind ≡ outcome (rule ++ log_questions log) kind
      unfolding outcome ahead_of_rows early_questions ask_room ask
      early = rw (le-leb slot_length room long) (outcome_behind (ask 2 0 (kind_known kind) ∷ []) (rule ++ log_questions log) kind known)

      -- the rule
      pub refused_rule : {n i : ℕ} → outcome rule (tt {0}) ≡ refused n i → outcome (ahead_of_rows kind rule log room) kind ≡ refused n i
      refused_rule e = early ∙ refused_first rule (log_questions log) (tt {0}) kind _ _ e

      -- and the log
      pub refused_log : {n i : ℕ} → AllPass rule → outcome (log_questions log) (tt {0}) ≡ refused n i → outcome (ahead_of_rows kind rule log room) kind ≡ refused n i
      refused_log passed e = early ∙ outcome_behind rule (log_questions log) kind passed ∙ refused_same (log_questions log) (tt {0}) kind _ _ e

      -- all are passed
      pub passed_ahead : AllPass rule → AllPass (log_questions log) → outcome (ahead_of_rows kind rule log room) kind ≡ accepted kind
      passed_ahead passed logged = early ∙ all_outcome _ kind (all_append rule (log_questions log) passed logged)
