-- The text forms of arrays and of records (PostgreSQL manual, "Array Input and Output Syntax" and "Composite Type Input and Output Syntax").
use Rattle.std.specs.Prelude.{ℕ, ◌≡◌, ◌≢◌, ◌==◌, ◌||◌, ◌&&◌, not, nat_le, Bool, List, [], ◌∷◌, ◌++◌, ◌⊎◌, Option, Some, None, IsTrue, IsUtf8}
use Rattle.std.specs.List.{AllByRecursion}
use Rattle.pg_values.specs.Arrays.{ReadsEach}
use Rattle.pg_values.specs.declared.style.Style.{Style}
use Rattle.pg_values.specs.declared.style.Style.TheVariants as styles

-- the braces of an array, the parentheses of a record
abbrev pub opening : Style → ℕ
opening styles.Array = 123
opening styles.Record = 40

abbrev pub closing : Style → ℕ
closing styles.Array = 125
closing styles.Record = 41

-- how a null is spelled: NULL in an array, nothing in a record
abbrev pub null_text : Style → List ℕ
null_text styles.Array = 78 ∷ 85 ∷ 76 ∷ 76 ∷ []
null_text styles.Record = []

abbrev pub is_blank : ℕ → Bool
is_blank c = c == 32 || (nat_le 9 c && nat_le c 13)

-- the bytes of an element or a field without quotes; one of an array has no white space either
abbrev pub is_plain : Style → ℕ → Bool
is_plain styles.Array c = not (c == 123 || c == 125 || c == 44 || c == 34 || c == 92 || is_blank c)
is_plain styles.Record c = not (c == 40 || c == 41 || c == 44 || c == 34 || c == 92)

-- a byte in quotes: in an array a backslash keeps any byte, in a record a quote and a backslash are doubled; all others stand as they are
abbrev pub IsKept : Style → ℕ → List ℕ → Type 0
IsKept styles.Array c a = a ≡ 92 ∷ c ∷ []
IsKept styles.Record c a = (a ≡ c ∷ c ∷ []) × ((c ≡ 34) ⊎ (c ≡ 92))

abbrev pub IsCharacter : Style → ℕ → List ℕ → Type 0
IsCharacter style c a = IsKept style c a ⊎ ((a ≡ c ∷ []) × (c ≢ 34) × (c ≢ 92))

abbrev pub IsQuoted : Style → List ℕ → List ℕ → Type 0
IsQuoted style [] a = a ≡ []
IsQuoted style (c ∷ cs) a = (x y : List ℕ) × IsCharacter style c x × IsQuoted style cs y × (a ≡ x ++ y)

-- an element or a field: null, or a text in quotes, or a text as it stands where it can't be taken for a null
abbrev pub SpellsItem : Style → Option (List ℕ) → List ℕ → Type 0
SpellsItem style None a = a ≡ null_text style
SpellsItem style (Some s) a =
    IsUtf8 s × (((q : List ℕ) × IsQuoted style s q × (a ≡ 34 ∷ q ++ 34 ∷ [])) ⊎ ((a ≡ s) × (s ≢ []) × (s ≢ null_text style) × AllByRecursion (λ c. IsTrue (is_plain style c)) s))

-- one or more, joined by commas
abbrev pub SpellsItems : Style → List (Option (List ℕ)) → List ℕ → Type 0
SpellsItems style [] a = ⊥
SpellsItems style (e ∷ []) a = SpellsItem style e a
SpellsItems style (e ∷ f ∷ es) a = (x y : List ℕ) × SpellsItem style e x × SpellsItems style (f ∷ es) y × (a ≡ x ++ 44 ∷ y)

abbrev pub Encloses : Style → List (Option (List ℕ)) → List ℕ → Type 0
Encloses style items a = (x : List ℕ) × SpellsItems style items x × (a ≡ opening style ∷ x ++ closing style ∷ [])

abbrev pub IsArrayText : List (Option (List ℕ)) → List ℕ → Type 0
IsArrayText [] a = a ≡ 123 ∷ 125 ∷ []
IsArrayText (e ∷ es) a = Encloses styles.Array (e ∷ es) a

-- a record has a field at least
abbrev pub IsRecordText : List (Option (List ℕ)) → List ℕ → Type 0
IsRecordText fields a = Encloses styles.Record fields a

-- what stands behind the opening brace or parenthesis
abbrev pub SpellsRest : Style → List ℕ → List (Option (List ℕ)) → Type 0
SpellsRest style bytes items = (x : List ℕ) × SpellsItems style items x × (bytes ≡ x ++ closing style ∷ [])

abbrev pub ArrayTextOf : List ℕ → List (Option (List ℕ)) → Type 0
ArrayTextOf text elements = IsArrayText elements text

abbrev pub RecordTextOf : List ℕ → List (Option (List ℕ)) → Type 0
RecordTextOf text fields = IsRecordText fields text

-- the text of an array whose elements are read so
abbrev pub IsTextArray : {X : Type 0} → (Option (List ℕ) → X → Type 0) → List ℕ → List X → Type 0
IsTextArray reads bytes xs = (elements : List (Option (List ℕ))) × IsUtf8 bytes × IsArrayText elements bytes × ReadsEach reads elements xs
