-- Texts between two marks, where two marks stand for one (PostgreSQL manual, "Identifiers and Key Words", "String Constants").
use Rattle.std.specs.Prelude.{◌≡◌, ℕ, ◌==◌, Bool, true, false, if◌then◌else◌, List, [], ◌∷◌, ◌++◌, Option, Some, None}
use Rattle.std.specs.List.{flat_map}

abbrev pub doubled_byte : ℕ → ℕ → List ℕ
doubled_byte mark b = if b == mark then b ∷ b ∷ [] else b ∷ []

-- the text with each mark doubled
unfoldable pub doubled : ℕ → List ℕ → List ℕ
doubled mark text = flat_map (doubled_byte mark) text

unfoldable pub quoted : ℕ → List ℕ → List ℕ
quoted mark text = (mark ∷ []) ++ doubled mark text ++ (mark ∷ [])

-- ---- how a server reads them

abbrev pub behind : ℕ → Option (List ℕ × List ℕ) → Option (List ℕ × List ℕ)
behind b None = None
behind b (Some (text, rest)) = Some (b ∷ text, rest)

-- what stands up to the mark that ends the text, and what follows that; the second argument says whether a mark was read that ends it unless
-- another one follows
abbrev pub inside : ℕ → Bool → List ℕ → Option (List ℕ × List ℕ)
inside mark false [] = None
inside mark true [] = Some ([], [])
inside mark false (b ∷ bytes) = if b == mark then inside mark true bytes else behind b (inside mark false bytes)
inside mark true (b ∷ bytes) = if b == mark then behind b (inside mark false bytes) else Some ([], b ∷ bytes)

-- the text that some bytes begin with, and the bytes behind it
abbrev pub unquoted : ℕ → List ℕ → Option (List ℕ × List ℕ)
unquoted mark [] = None
unquoted mark (b ∷ bytes) = if b == mark then inside mark false bytes else None

abbrev pub BeginsOtherwise : ℕ → List ℕ → Type 0
BeginsOtherwise mark [] = Unit {0}
BeginsOtherwise mark (b ∷ _) = (b == mark) ≡ false
