-- What a plan marks, by what it is itself and by what those below it mark.
use Rattle.std.proofs.Common.{◌≡◌, ℕ, zero, suc, ◌<◌, List, [], ◌∷◌, ◌++◌, length, get_or, map, Bool, true, false, ◌||◌, cond, refl, ap, sym, ◌∙◌, arith}
use Rattle.std.specs.Prelude.{Option, Some, None, Vec}
use Rattle.std.specs.declared.alloc.Global.{Global}
use Rattle.std.specs.List.{flat_map}
use Rattle.std.proofs.lemmas.List.Folds.{list_any-append}
use Rattle.pg_resolve.specs.declared.plan.Plan.{Plan}
use Rattle.pg_resolve.specs.declared.plan.Plan.TheOpen.{Plan-F}
use Rattle.pg_resolve.specs.declared.plan.Plan.TheViews.{out-Plan}
use Rattle.pg_resolve.specs.declared.plan.Plan.TheFolds.{map-Plan, fold_out-Plan}
use Rattle.pg_resolve.specs.Marks.{own_marks, looked_into, marked_step, marked_by, is_among, has_outer_side, items_of}

joined_map : {X A : Type 0} (f : X → List A) (xs : List X) → flat_map (λ below. below) (map f xs) ≡ flat_map f xs
joined_map f [] = refl
joined_map f (x ∷ xs) = ap (λ ys. f x ++ ys) (joined_map f xs)

mapped_below : (p : Plan-F Plan) (b : Bool) (below : Option (Vec Plan Global)) → flat_map (λ marks. marks) (cond b (items_of (map-Plan Plan (List (List ℕ)) marked_by (record p { plans = below })).plans) []) ≡ flat_map marked_by (cond b (items_of below) [])
mapped_below p true None = refl
mapped_below p true (Some v) = joined_map marked_by v.items
mapped_below p false None = refl
mapped_below p false (Some v) = refl

pub marked_out : (p : Plan) → marked_by p ≡ own_marks (out-Plan p) ++ flat_map marked_by (looked_into (out-Plan p))
marked_out p = fold_out-Plan (List (List ℕ)) marked_step p ∙ ap (λ ys. own_marks (out-Plan p) ++ ys) (mapped_below (out-Plan p) (has_outer_side (out-Plan p)) (out-Plan p).plans)

pub among_append : (xs ys : List (List ℕ)) (name : List ℕ) → is_among (xs ++ ys) name ≡ (is_among xs name || is_among ys name)
among_append xs ys name = list_any-append _ xs ys

-- an output is marked by the plan itself, or by one of those below it
pub among_marked : (p : Plan) (name : List ℕ) → is_among (marked_by p) name ≡ (is_among (own_marks (out-Plan p)) name || is_among (flat_map marked_by (looked_into (out-Plan p))) name)
among_marked p name = ap (λ names. is_among names name) (marked_out p) ∙ among_append (own_marks (out-Plan p)) (flat_map marked_by (looked_into (out-Plan p))) name

-- where it marks nothing itself, those of its parts do that are looked into
pub below_alone : (p : Plan) (name : List ℕ) (plans : Vec Plan Global) → is_among (own_marks (out-Plan p)) name ≡ false → has_outer_side (out-Plan p) ≡ true → (out-Plan p).plans ≡ Some plans → is_among (flat_map marked_by plans.items) name ≡ is_among (marked_by p) name
below_alone p name plans own outer is = rw (among_marked p name) (rw (own, outer, is) refl)

true_behind : (b : Bool) → (b || true) ≡ true
true_behind true = refl
true_behind false = refl

-- what one of several plans marks, all of them do
pub one_marks : (plans : List Plan) (k : ℕ) (p : Plan) (name : List ℕ) → k < length plans → p ≡ get_or plans k p → is_among (marked_by p) name ≡ true → is_among (flat_map marked_by plans) name ≡ true
one_marks [] k p name below is marks = absurd (omega arith)
one_marks (q ∷ plans) zero p name below is marks = among_append (marked_by q) (flat_map marked_by plans) name ∙ ap (λ b. b || is_among (flat_map marked_by plans) name) (ap (λ r. is_among (marked_by r) name) (sym is) ∙ marks)
one_marks (q ∷ plans) (suc k) p name below is marks = among_append (marked_by q) (flat_map marked_by plans) name ∙ ap (λ b. is_among (marked_by q) name || b) (one_marks plans k p name (omega arith) is marks) ∙ true_behind (is_among (marked_by q) name)
