-- One-dimensional arrays as they are read (PostgreSQL manual, "Arrays"; in binary the receive function array_recv).
use Rattle.std.specs.declared.alloc.Global.{Global}
use Rattle.std.specs.Prelude.{Vec, ℕ, ◌≡◌, ◌<◌, ◌≤◌, ◌^◌, List, [], ◌∷◌, ◌++◌, ◌⊎◌, length, flat_map, Option}
use Rattle.std.specs.List.{AllByRecursion}
use Rattle.pg_wire.specs.Bytes.{number32, value}
use Rattle.pg_wire.specs.Frontend.{FitsValue}
use Rattle.pg_arguments.specs.Types.{TypeParts, TypePart, PartKind, Array}

-- the type of the elements, where a type says that it is an array
abbrev pub element_by : PartKind → TypePart → TypeParts → TypeParts
element_by Array part rest = rest
element_by _ part rest = part ∷ rest

abbrev pub element_type : TypeParts → TypeParts
element_type [] = []
element_type (part ∷ rest) = element_by part.kind part rest

-- each value is read as its element
abbrev pub ReadsEach : {X : Type 0} → (Option (List ℕ) → X → Type 0) → List (Option (List ℕ)) → List X → Type 0
ReadsEach reads [] [] = Unit {0}
ReadsEach reads [] (x ∷ xs) = ⊥
ReadsEach reads (v ∷ vs) [] = ⊥
ReadsEach reads (v ∷ vs) (x ∷ xs) = reads v x × ReadsEach reads vs xs

-- the flags tell whether there are nulls; they are not looked at
abbrev pub array_front : ℕ → ℕ → ℕ → List ℕ
array_front dimensions flags element = number32 dimensions ++ number32 flags ++ number32 element

-- no dimensions, and so no elements
abbrev pub IsEmptyArray : List ℕ → Type 0
IsEmptyArray bytes = (flags element : ℕ) × (flags ≤ 1) × (element < 2 ^ 32) × (bytes ≡ array_front 0 flags element)

-- one dimension: the number of elements, the index of the first, whatever it is, and the elements as in Bind
abbrev pub HasElements : List ℕ → List (Option (List ℕ)) → Type 0
HasElements bytes values =
    (flags element first : ℕ) × (flags ≤ 1) × (element < 2 ^ 32) × (first < 2 ^ 32) × (length values < 2 ^ 31) × AllByRecursion FitsValue values
    × (bytes ≡ array_front 1 flags element ++ number32 (length values) ++ number32 first ++ flat_map value values)

-- the values of the elements
abbrev pub AreElements : List ℕ → List (Option (List ℕ)) → Type 0
AreElements bytes [] = IsEmptyArray bytes ⊎ HasElements bytes []
AreElements bytes (v ∷ vs) = HasElements bytes (v ∷ vs)

abbrev pub IsArray : {X : Type 0} → (Option (List ℕ) → X → Type 0) → List ℕ → List X → Type 0
IsArray reads bytes xs = (values : List (Option (List ℕ))) × AreElements bytes values × ReadsEach reads values xs

-- what holds of a vector's elements
abbrev pub OfItems : {X : Type 0} → (List X → Type 0) → Vec X Global → Type 0
OfItems P v = P v.items
