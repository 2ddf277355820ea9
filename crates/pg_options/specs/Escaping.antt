-- Command-line options for the server in one text (PostgreSQL manual, "libpq", "Parameter Key Words", options):
-- spaces part words, a backslash makes a space or a backslash part of its word.
use Rattle.std.specs.Prelude.{ℕ, Bool, true, false, ◌||◌, ◌==◌, List, [], ◌∷◌, ◌++◌, length, codes, fold, Option, unwrap_or, if◌then◌else◌}
use Rattle.std.specs.List.{flat_map}

abbrev pub escaped_byte : ℕ → List ℕ
escaped_byte b = if b == 32 || b == 92 then 92 ∷ b ∷ [] else b ∷ []

-- the text with a backslash before each space and each backslash
unfoldable pub escaped : List ℕ → List ℕ
escaped text = flat_map escaped_byte text

-- a space, unless the text is empty
abbrev pub separator : List ℕ → List ℕ
separator text = if length text == 0 then [] else 32 ∷ []

-- the option that sets a parameter: `-c name=value`
unfoldable pub switch : List ℕ × List ℕ → List ℕ
switch (name, value) = codes "-c " ++ (escaped name ++ 61 ∷ [] ++ escaped value)

-- the text with one more option behind it
abbrev pub with_switch : List ℕ → List ℕ × List ℕ → List ℕ
with_switch text pair = text ++ separator text ++ switch pair

-- the options after one more builder call
abbrev pub options_with : Option (List ℕ) → List (List ℕ × List ℕ) → List ℕ
options_with text pairs = fold with_switch (unwrap_or text []) pairs

-- ---- how a server reads such a text

-- the words of the bytes, where `word` is what of the first one is read, and a backslash may just have been read
unfoldable pub words_after : List ℕ → Bool → List ℕ → List (List ℕ)
words_after word escaping [] = word ∷ []
words_after word true (b ∷ bytes) = words_after (word ++ b ∷ []) false bytes
words_after word false (b ∷ bytes) =
    if b == 92 then words_after word true bytes
    else (if b == 32 then word ∷ words_after [] false bytes
    else words_after (word ++ b ∷ []) false bytes)

-- the words of a text, of which the empty one has none
abbrev pub words : List ℕ → List (List ℕ)
words [] = []
words (b ∷ bytes) = words_after [] false (b ∷ bytes)

-- the two words that set a parameter
abbrev pub switch_words : List ℕ × List ℕ → List (List ℕ)
switch_words (name, value) = codes "-c" ∷ (name ++ 61 ∷ [] ++ value) ∷ []
