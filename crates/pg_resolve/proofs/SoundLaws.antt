-- Types that were looked up stay what the catalog means.
use Rattle.std.proofs.Common.{◌≡◌, inl, inr, ℕ, suc, ◌+◌, ◌<◌, List, [], ◌∷◌, ◌++◌, length, refl, sym, ap, subst, ◌∙◌, Option, Some, None, option_and_then, option_map, Result, Ok, Err}
use Rattle.std.specs.Ordering.{nat_cmp}
use Rattle.pg_arguments.specs.Types.{TypeParts, PartKind, most_levels}
use Rattle.pg_arguments.specs.Builtin.{builtin_type, or_else}
use Rattle.pg_resolve.specs.declared.row.TypeResolverRow.{TypeResolverRow}
use Rattle.pg_resolve.specs.declared.codes.Sort.{Sort}
use Rattle.pg_resolve.specs.declared.codes.Sort.TheVariants.{Domain, Array, Pseudo, Range, Enum, Composite, Simple}
use Rattle.pg_resolve.specs.Rows.{Known, type_of, made_from, custom_of, parts_by, kind_by, if_made, gathered, sort_of}
use Rattle.pg_resolve.specs.Catalog.{Catalog, row_under, meaning_within, meaning, without_original, IsIn}
use Rattle.pg_resolve.specs.Cached.{CacheSeen, cached, known, number_at}
use Rattle.pg_wire.specs.declared.error.Error.{Error}
use Rattle.pg_resolve.specs.Tried.{AddsType, tried, told, IsRefused}
use Rattle.pg_resolve.specs.Sound.{IsSound}
use Rattle.pg_resolve.specs.Resolving.{ResolverSeen, waiting_for, how_many, IsFiled, IsFreed}
use Rattle.pg_resolve.specs.Settling.{IsHeld, AllOf, KeepsSound, Settles, IsRefusal, up_to}
use Rattle.pg_resolve.proofs.MapLaws.{put_finds, number_keys}
use Rattle.pg_resolve.proofs.RowLaws.{type_from, type_of-more}
use Rattle.pg_resolve.proofs.MeaningLaws.{builtin_means, enough}
use Rattle.pg_resolve.proofs.SettlingLaws.{has_one, has_right, waits_step, enters_step}
use Rattle.pg_resolve.proofs.MeasureLaws.{waits_less, enters_less}

means_by : (catalog : Catalog) (oid : ℕ) (b o : Option TypeParts) (t : TypeParts) → builtin_type oid ≡ b → (o ≡ Some t → meaning catalog oid ≡ Some t) → or_else b o ≡ Some t → meaning catalog oid ≡ Some t
means_by catalog oid None o t e f h = f h
means_by catalog oid (Some s) o t e f h = builtin_means catalog (length catalog) oid t (e ∙ h)

-- what is known is meant
pub known_means : (catalog : Catalog) (c : CacheSeen) → IsSound catalog c → (oid : ℕ) (t : TypeParts) → known c oid ≡ Some t → meaning catalog oid ≡ Some t
known_means catalog c sound oid t h = means_by catalog oid (builtin_type oid) (cached c oid) t refl (sound oid t) h

not_builtin : (b o : Option TypeParts) → or_else b o ≡ None → b ≡ None
not_builtin None o h = refl
not_builtin (Some s) o h = absurd cc

-- the name that was asked for is no part of a type
parts_plain : (sort : Sort) (row : TypeResolverRow) → parts_by sort (without_original row) ≡ parts_by sort row
parts_plain Domain row = refl
parts_plain Array row = refl
parts_plain Pseudo row = refl
parts_plain Range row = refl
parts_plain Enum row = refl
parts_plain Composite row = refl
parts_plain Simple row = refl

kind_plain : (sort : Sort) (row : TypeResolverRow) → kind_by sort (without_original row) ≡ kind_by sort row
kind_plain Domain row = refl
kind_plain Array row = refl
kind_plain Pseudo row = refl
kind_plain Range row = refl
kind_plain Enum row = refl
kind_plain Composite row = refl
kind_plain Simple row = refl

made_plain : (row : TypeResolverRow) (o : Option (Result TypeParts ℕ)) → if_made (without_original row) o ≡ if_made row o
made_plain row None = refl
made_plain row (Some (Err p)) = refl
made_plain row (Some (Ok made)) = ap (λ (kind : PartKind). Some (record { oid = Some row.oid; name = row.pretty_name; levels = most_levels made + 1; kind = kind } ∷ made)) (kind_plain (sort_of row) row)

pub type_plain : (f : Known) (row : TypeResolverRow) → type_of f (without_original row) ≡ type_of f row
type_plain f row = ap (λ (ps : Option (List ℕ)). if_made (without_original row) (option_map (gathered f) ps)) (parts_plain (sort_of row) row) ∙ made_plain row (made_from f row)

-- the type that a row of the catalog describes over what is known is the one that is meant
pub described_means : (catalog : Catalog) (c : CacheSeen) (row : TypeResolverRow) (made : TypeParts) → IsSound catalog c → IsIn catalog row → known c row.oid ≡ None → made_from (known c) row ≡ Some (Ok made) → meaning catalog row.oid ≡ Some (custom_of row made)
described_means catalog c row made sound of none from =
    let described : type_of (known c) row ≡ Some (custom_of row made) = type_from (known c) row made from in
    let meant : type_of (meaning catalog) (without_original row) ≡ Some (custom_of row made) = type_plain (meaning catalog) row ∙ type_of-more (known c) (meaning catalog) row (custom_of row made) (λ p s e l. known_means catalog c sound p s e) described in
    let found : option_and_then (type_of (meaning catalog)) (row_under row.oid catalog) ≡ Some (custom_of row made) = ap (option_and_then (type_of (meaning catalog))) of ∙ meant in
    let next : meaning_within catalog (suc (length catalog)) row.oid ≡ Some (custom_of row made)
    = ap (λ (b : Option TypeParts). or_else b (option_and_then (type_of (meaning catalog)) (row_under row.oid catalog))) (not_builtin (builtin_type row.oid) (cached c row.oid) none) ∙ found in
    enough catalog (suc (length catalog)) row.oid (custom_of row made) next

pub adds_sound : (catalog : Catalog) (row : TypeResolverRow) (c d : CacheSeen) → IsIn catalog row → AddsType row c d → IsSound catalog c → IsSound catalog d
adds_sound catalog row c d of (inl same) sound = λ oid t h. sound oid t (ap (number_at oid) (sym same) ∙ h)
adds_sound catalog row c d of (inr new) sound = λ oid t h.
    elim (put_finds nat_cmp number_keys oid row.oid (custom_of row new.0) t c.types (ap (number_at oid) (sym new.3) ∙ h)) [
      | inl here ↦ ap (meaning catalog) here.0 ∙ described_means catalog c row new.0 sound of new.1 new.2 ∙ ap (λ (t : TypeParts). Some t) here.1
      | inr old ↦ sound oid t old
    ]

pub held_in : (catalog : Catalog) (taken row : TypeResolverRow) (s : ResolverSeen) → IsIn catalog taken → AllOf catalog s → IsHeld (taken ∷ []) s row → IsIn catalog row
held_in catalog taken row s of all (inl this) = subst (λ (r : TypeResolverRow). IsIn catalog r) (sym (has_one row taken this)) of
held_in catalog taken row s of all (inr waits) = all row waits

pub sound_step : (taken row : TypeResolverRow) (s : ResolverSeen) (c d e : CacheSeen) → IsHeld (taken ∷ []) s row → KeepsSound taken s c d → AddsType row d e → KeepsSound taken s c e
sound_step taken row s c d e held before adds = λ catalog of all sound. adds_sound catalog row d e (held_in catalog taken row s of all held) adds (before catalog of all sound)

-- ---- one step of `take_row`, by what its calls ensure

abbrev Way : TypeResolverRow → ResolverSeen → CacheSeen → List TypeResolverRow → ResolverSeen → CacheSeen → Type 0
Way taken s c work t d = Settles taken s c work t d

way_at : (taken row : TypeResolverRow) (rest work : List TypeResolverRow) (s t : ResolverSeen) (c d : CacheSeen) → work ≡ rest ++ row ∷ [] → Way taken s c work t d → Way taken s c (rest ++ row ∷ []) t d
way_at taken row rest work s t c d e way = subst (λ (w : List TypeResolverRow). Way taken s c w t d) e way

held_now : (taken row : TypeResolverRow) (rest work : List TypeResolverRow) (s t : ResolverSeen) (c d : CacheSeen) → work ≡ rest ++ row ∷ [] → Way taken s c work t d → IsHeld (taken ∷ []) s row
held_now taken row rest work s t c d e way = (way_at taken row rest work s t c d e way).only row (inl (has_right rest (row ∷ []) row (inl refl)))

pub sound_by : (taken row : TypeResolverRow) (rest work : List TypeResolverRow) (s t : ResolverSeen) (c d e : CacheSeen) → work ≡ rest ++ row ∷ [] → Settles taken s c work t d → KeepsSound taken s c d → AddsType row d e → KeepsSound taken s c e
sound_by taken row rest work s t c d e is way before adds = sound_step taken row s c d e (held_now taken row rest work s t c d is way) before adds

pub waits_by : (taken row : TypeResolverRow) (rest work : List TypeResolverRow) (s t u : ResolverSeen) (c d e : CacheSeen) (p : ℕ) (m : Option ℕ) → work ≡ rest ++ row ∷ [] → Settles taken s c work t d → tried d row ≡ told m e → m ≡ Some p → IsFiled p row t u → Settles taken s c rest u e
waits_by taken row rest work s t u c d e p m is way says some f = waits_step taken row rest s t u c d e p (way_at taken row rest work s t c d is way) (says ∙ ap (λ (o : Option ℕ). told o e) some) f

pub enters_by : (taken row : TypeResolverRow) (rest work more rows : List TypeResolverRow) (s t u : ResolverSeen) (c d e : CacheSeen) (m : Option ℕ) → work ≡ rest ++ row ∷ [] → Settles taken s c work t d → tried d row ≡ told m e → m ≡ None
    → rows ≡ waiting_for t row.oid → IsFreed row.oid t u → more ≡ rest ++ rows → Settles taken s c more u e
enters_by taken row rest work more rows s t u c d e m is way says none free f all =
    subst (λ (w : List TypeResolverRow). Settles taken s c w u e) (sym (all ∙ ap (λ (r : List TypeResolverRow). rest ++ r) free))
    (enters_step taken row rest s t u c d e (way_at taken row rest work s t c d is way) (says ∙ ap (λ (o : Option ℕ). told o e) none) f)

pub refusal_by : (taken row : TypeResolverRow) (rest work : List TypeResolverRow) (s t : ResolverSeen) (c d : CacheSeen) (e : Error) → work ≡ rest ++ row ∷ [] → Settles taken s c work t d → KeepsSound taken s c d → IsRefused d row e → IsRefusal taken s c e
refusal_by taken row rest work s t c d e is way sound (inl memory) = inl memory
refusal_by taken row rest work s t c d e is way sound (inr refused) = inr (row, d, held_now taken row rest work s t c d is way, sound, refused.0, refused.1)

-- ---- the measure, by the same

pub waits_less_by : (rest work : List TypeResolverRow) (p : ℕ) (row : TypeResolverRow) (s t : ResolverSeen) → work ≡ rest ++ row ∷ [] → IsFiled p row s t → up_to (how_many t + length rest) + length rest < up_to (how_many s + length work) + length work
waits_less_by rest work p row s t is f = rw is (waits_less rest p row s t f)

pub enters_less_by : (rest work more rows : List TypeResolverRow) (row : TypeResolverRow) (s t : ResolverSeen) → work ≡ rest ++ row ∷ [] → rows ≡ waiting_for s row.oid → IsFreed row.oid s t → more ≡ rest ++ rows
    → up_to (how_many t + length more) + length more < up_to (how_many s + length work) + length work
enters_less_by rest work more rows row s t is free f all =
    let e : more ≡ rest ++ waiting_for s row.oid = all ∙ ap (λ (r : List TypeResolverRow). rest ++ r) free in
    rw (is, e) (enters_less rest row.oid row s t f)
