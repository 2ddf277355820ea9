-- The statement of a number among the kept ones, by its place, and the last one.
use Rattle.std.proofs.Common.{ℕ, suc, ◌+◌, ◌-◌, ◌<◌, ◌≤◌, ◌≡◌, Bool, true, false, cond, nat_lt, List, [], ◌∷◌, ◌++◌, length, take, drop, Some, None, refl, ap, ◌∙◌, arith, append-nil}
use Rattle.std.specs.Prelude.{find, position, option_to_list}
use Rattle.std.specs.List.{remove, slice_get, slice_index_or, position_or_len, before_first, after_first, last_or}
use Rattle.std.proofs.lemmas.Bool.{ltb-true, ltb-false}
use Rattle.std.proofs.lemmas.List.{take_all, drop_all}
use Rattle.std.proofs.lemmas.List.Folds.{find_at}
use Rattle.std.proofs.lemmas.Option.{slice_get_read, slice_get_past}
use Rattle.pg_rule.specs.declared.cache.Entry.{Entry}

placed_by : (b : Bool) (n place : ℕ) → cond b (Some n) None ≡ Some place → (b ≡ true) × (n ≡ place)
placed_by true n place e = (refl, cc)
placed_by false n place e = absurd cc

unplaced_by : (b : Bool) (n : ℕ) → cond b (Some n) None ≡ None → b ≡ false
unplaced_by true n e = absurd cc
unplaced_by false n e = refl

behind_it : (n place : ℕ) (es : List Entry) → n ≡ place → remove es place ≡ take n es ++ drop (n + 1) es
behind_it n place es e = let next : n + 1 ≡ suc place = omega (arith, e) in rw (next, e) refl

-- the first one of which a test holds comes to the front
pub moved : (p : Entry → Bool) (place : ℕ) (es rest new : List Entry) (e : Entry) → position p es ≡ Some place → e ≡ slice_index_or es place e → rest ≡ remove es place → new ≡ e ∷ rest → new ≡ option_to_list (find p es) ++ (before_first p es ++ after_first p es)
moved p place es rest new e at value items is =
    let b = placed_by (nat_lt (position_or_len p es) (length es)) (position_or_len p es) place at in
    let within : position_or_len p es < length es = ltb-true _ _ b.0 in
    let found : find p es ≡ Some e = find_at p es ∙ ap (λ (n : ℕ). slice_get es n) b.1 ∙ slice_get_read es (length es) place e refl (omega (arith, within, b.1)) value in
    rw found (is ∙ ap (λ (xs : List Entry). e ∷ xs) (items ∙ behind_it (position_or_len p es) place es b.1))

-- and where there is none all stay
pub unmoved : (p : Entry → Bool) (es : List Entry) → position p es ≡ None → es ≡ option_to_list (find p es) ++ (before_first p es ++ after_first p es)
unmoved p es at =
    let past : length es ≤ position_or_len p es = ltb-false _ _ (unplaced_by (nat_lt (position_or_len p es) (length es)) (position_or_len p es) at) in
    let none : find p es ≡ None = find_at p es ∙ slice_get_past es (position_or_len p es) past in
    rw (none, take_all (position_or_len p es) es past, drop_all (position_or_len p es + 1) es (omega (arith, past)), append-nil es) refl

last_from : (e : Entry) (es : List Entry) → slice_get (e ∷ es) (length es) ≡ last_or (Some e) es
last_from e [] = refl
last_from e (f ∷ es) = last_from f es

-- the last one by its place
pub last_at : (es : List Entry) → slice_get es (length es - 1) ≡ last_or None es
last_at [] = refl
last_at (e ∷ es) = let before : length (e ∷ es) - 1 ≡ length es = omega arith in ap (λ (n : ℕ). slice_get (e ∷ es) n) before ∙ last_from e es
