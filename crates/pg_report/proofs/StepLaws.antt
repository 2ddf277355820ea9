-- Steps with their numbers.
use Rattle.std.proofs.Common.{◌≡◌, ℕ, ◌+◌, ◌<◌, ◌≤◌, List, ◌∷◌, ◌++◌, length, drop, get_or, refl, sym, ap, append_assoc, drop-cons, add-one}
use Rattle.std.proofs.lemmas.List.{drop_all, append-nil}
use Rattle.pg_report.specs.Report.{steps_from}
use Rattle.pg_report.specs.declared.outcome.Outcome.{Outcome}
use Rattle.pg_report.specs.Steps.{step_lines}

pub one_more : (out new all : List ℕ) (ss : List Outcome) (i : ℕ) (d : Outcome) → i < length ss → out ++ steps_from (i + 1) (drop i ss) ≡ all → new ≡ out ++ step_lines (i + 1) (get_or ss i d)
    → new ++ steps_from (i + 1 + 1) (drop (i + 1) ss) ≡ all
unfolding steps_from
one_more out new all ss i d lt so_far e =
    let split : drop i ss ≡ get_or ss i d ∷ drop (i + 1) ss = rw (add-one, drop-cons ss i d) refl in
    let rest : steps_from (i + 1) (drop i ss) ≡ step_lines (i + 1) (get_or ss i d) ++ steps_from (i + 1 + 1) (drop (i + 1) ss) = ap (steps_from (i + 1)) split in
    rw (e, append_assoc, ← rest) so_far

pub all_done : (out all : List ℕ) (ss : List Outcome) (i : ℕ) → length ss ≤ i → out ++ steps_from (i + 1) (drop i ss) ≡ all → out ≡ all
unfolding steps_from
all_done out all ss i le so_far = sym (rw (← so_far, drop_all i ss le) (append-nil out))
