-- The script of a live run says nothing but its polls and its steps.
use Rattle.std.proofs.Common.{ℕ, ◌≡◌, ◌+◌, ◌∷◌, ◌++◌, [], List, Option, Some, None, Ok, Err, Bool, true, false, cond, nat_lt, length, refl, ap, ◌∙◌, subst}
use Rattle.pg_script.specs.declared.line.Line.{Line}
use Rattle.pg_script.specs.declared.line.Line.TheVariants as lines
use Rattle.pg_script.specs.declared.kind.Kind.TheVariants as kinds
use Rattle.pg_script.specs.declared.script.Script.{Script}
use Rattle.pg_script.specs.declared.step.Step.{Step}
use Rattle.pg_script.specs.Lines.{line_in}
use Rattle.pg_script.specs.Scripts.{add_allowed, add_line, empty_script, lines_of, read_from, read_next, read_text, set_once, with_step, whole, live_part}
use Rattle.std.proofs.lemmas.Option.{same_Some}
use Rattle.pg_script.proofs.Found.{bind_some}

-- it is whole by its part that is live
abbrev pub IsWhole : Script → Type 0
IsWhole s = s ≡ whole (live_part s)

keeps_step : (s u : Script) (step : Step) → IsWhole s → with_step s step ≡ Some u → IsWhole u
keeps_step s u step h e = subst IsWhole (same_Some _ u e) (ap (λ (v : Script). record v { steps = s.steps ++ step ∷ [] }) h)

keeps : (s u : Script) (l : Line) → IsWhole s → add_allowed kinds.Live s l ≡ Some u → IsWhole u
keeps s u lines.Blank h e = subst IsWhole (same_Some s u e) h
keeps s u (lines.Start polls) h e =
    let b = bind_some (set_once s.start_polls polls) (λ (start_polls : Option ℕ). Some (record s { start_polls = start_polls })) u e in
    subst IsWhole (same_Some (record s { start_polls = b.0 }) u b.2) (ap (λ (v : Script). record v { start_polls = b.0 }) h)
keeps s u (lines.Step polls most call) h e = keeps_step s u _ h e
keeps s u l h e = absurd cc

keeps_line : (s u : Script) (a : List ℕ) → IsWhole s → add_line kinds.Live s a ≡ Some u → IsWhole u
unfolding add_line
keeps_line s u a h e = let b = bind_some (line_in a) (add_allowed kinds.Live s) u e in keeps s u b.0 h b.2

keeps_next : (n : ℕ) (s t : Script) (l : List ℕ) (ls : List (List ℕ)) (o : Option Script) → IsWhole s → add_line kinds.Live s l ≡ o → read_next n o (λ u. read_from kinds.Live (n + 1) u ls) ≡ Ok t
    → ((u : Script) → IsWhole u → read_from kinds.Live (n + 1) u ls ≡ Ok t → IsWhole t) → IsWhole t
keeps_next n s t l ls None w is e h = absurd cc
keeps_next n s t l ls (Some u) w is e h = h u (keeps_line s u l w is) e

keeps_all : (n : ℕ) (s t : Script) (ls : List (List ℕ)) → IsWhole s → read_from kinds.Live n s ls ≡ Ok t → IsWhole t
unfolding read_from
keeps_all n s t [] w e = let is : s ≡ t = cc in subst IsWhole is w
keeps_all n s t (l ∷ ls) w e = keeps_next n s t l ls (add_line kinds.Live s l) w refl e (λ u v h. keeps_all (n + 1) u t ls v h)

read_whole : (t : Script) (text : List ℕ) (long : Bool) → cond long (Err 0) (read_from kinds.Live 0 empty_script (lines_of text)) ≡ Ok t → IsWhole t
read_whole t text true e = absurd cc
read_whole t text false e = keeps_all 0 empty_script t (lines_of text) refl e

-- what is read of a live run is read whole
pub live_read : (t : Script) (text : List ℕ) → read_text kinds.Live text ≡ Ok t → read_text kinds.Live text ≡ Ok (whole (live_part t))
live_read t text e = e ∙ ap Ok (read_whole t text (nat_lt 67108864 (length text)) e)
