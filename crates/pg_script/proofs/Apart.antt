-- Tokens that the lexer can tell apart.
use Rattle.std.specs.Prelude.{Bool, true, false, List, [], ◌∷◌, ◌&&◌, not}
use Rattle.pg_script.specs.declared.token.Token.{Token}
use Rattle.pg_script.specs.declared.token.Token.TheVariants.{Word, Number, SslMode, Key, Bare}

-- a word, a number, a mode, a key or an argument without quotes, which nothing but its neighbours ends
abbrev pub is_word : Token → Bool
is_word (Word k) = true
is_word (Number n) = true
is_word (SslMode m) = true
is_word (Bare b) = true
is_word (Key k) = true
is_word _ = false

-- no two of these stand side by side
abbrev pub apart : List Token → Bool
apart [] = true
apart (t ∷ []) = true
apart (t ∷ u ∷ ts) = not (is_word t && is_word u) && apart (u ∷ ts)
