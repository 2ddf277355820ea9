-- Which outputs of a query may be null by its plan: those of the side of an outer join for which there may be no row (PostgreSQL manual,
-- "Joined Tables" and "Using EXPLAIN").
use Rattle.std.specs.Prelude.{◌≡◌, ◌<◌, ℕ, Bool, true, false, ◌||◌, ◌&&◌, not, if◌then◌else◌, List, [], ◌++◌, length, take, slice_index_or, Option, Some, None, unwrap_or, bytes_eq, codes, Vec}
use Rattle.std.specs.declared.alloc.Global.{Global}
use Rattle.std.specs.List.{list_any, flat_map}
use Rattle.pg_resolve.specs.declared.plan.Plan.{Plan}
use Rattle.pg_resolve.specs.declared.plan.Plan.TheOpen.{Plan-F}
use Rattle.pg_resolve.specs.declared.plan.Plan.TheFolds.{fold-Plan}

-- whether a field is there and is this word
abbrev pub is_word : List ℕ → Option (List ℕ) → Bool
is_word word None = false
is_word word (Some said) = bytes_eq said word

-- whether a plan's own outputs may be null: it is a full join, or the inner side of a join
abbrev pub may_be_null : {A : Type 0} → Plan-F A → Bool
may_be_null p = is_word (codes "Full") p.join_type || is_word (codes "Inner") p.parent_relation

-- whether it is a join with an outer side, which is looked for below
abbrev pub has_outer_side : {A : Type 0} → Plan-F A → Bool
has_outer_side p = is_word (codes "Left") p.join_type || is_word (codes "Right") p.join_type

-- the outputs that a plan marks for what it is itself
abbrev pub own_marks : {A : Type 0} → Plan-F A → List (List ℕ)
own_marks p = if may_be_null p then unwrap_or p.output [] else []

-- the plans below, where there are any
abbrev pub items_of : {A : Type 0} → Option (Vec A Global) → List A
items_of None = []
items_of (Some v) = v.items

-- the plans below it that are looked into
abbrev pub looked_into : {A : Type 0} → Plan-F A → List A
looked_into p = if has_outer_side p then items_of p.plans else []

-- all that it marks, where this is what each of those below marks
abbrev pub marked_step : Plan-F (List (List ℕ)) → List (List ℕ)
marked_step p = own_marks p ++ flat_map (λ below. below) (looked_into p)

-- the outputs that a plan marks
abbrev pub marked_by : Plan → List (List ℕ)
marked_by = fold-Plan (List (List ℕ)) marked_step

abbrev pub is_among : List (List ℕ) → List ℕ → Bool
is_among names name = list_any (λ other. bytes_eq other name) names

-- the first of equal outputs is marked, and no other
abbrev pub mark_at : List (List ℕ) → List (List ℕ) → ℕ → Option Bool
mark_at marked outputs k = let name = slice_index_or outputs k [] in if is_among marked name && not (is_among (take k outputs) name) then Some true else None

-- a mark for each output, in their order
abbrev pub AreMarked : List (List ℕ) → List (List ℕ) → List (Option Bool) → Type 0
AreMarked marked outputs marks = (length marks ≡ length outputs) × ((k : ℕ) → k < length outputs → slice_index_or marks k None ≡ mark_at marked outputs k)
