-- The tokens of a line, byte by byte.
use Rattle.std.specs.Prelude.{◌≡◌, ◌<◌, ◌==◌, ◌+◌, ◌*◌, ◌-◌, ◌∷◌, ◌++◌, ◌&&◌, ◌||◌, Bool, true, [], List, ℕ, Option, Some, None, Result, Ok, Err, nat_le, length, if◌then◌else◌}
use Rattle.pg_script.specs.declared.token.Token.{Token}
use Rattle.pg_script.specs.declared.token.Token.TheVariants as tokens
use Rattle.pg_script.specs.declared.error.LineError.{LineError}
use Rattle.pg_script.specs.Reading.{◌>>=◌, run, Fails}
use Rattle.pg_script.specs.Words.{token_of, is_digit}

-- what the next byte belongs to: a word or nothing yet, a text, what stands behind a backslash, or the first or the second
-- digit of a byte
pub data Mode : Type 0 where
  Word : Mode
  Text : Mode
  Escape : Mode
  High : Mode
  Low : ℕ → Mode

-- the tokens so far, and the bytes of the one that is being read
pub record LexerState : Type 0 where
  pub tokens : List Token
  pub held : List ℕ
  pub mode : Mode

abbrev pub start_state : LexerState
start_state = record { tokens = []; held = []; mode = Word }

-- a lower-case hexadecimal digit
abbrev pub hex_value : ℕ → Option ℕ
hex_value b = if is_digit b then Some (b - 48) else if nat_le 97 b && nat_le b 102 then Some (b - 87) else None

-- the word that ends here, where there is one
abbrev pub word_in : List ℕ → LexerState → Option LexerState
word_in [] s = Some s
word_in (b ∷ bs) s = token_of (b ∷ bs) >>= λ t. Some (record { tokens = s.tokens ++ t ∷ []; held = []; mode = s.mode })

abbrev pub after_word : LexerState → Option LexerState
after_word s = word_in s.held s

abbrev pub with_byte : LexerState → ℕ → LexerState
with_byte s b = record { tokens = s.tokens; held = s.held ++ b ∷ []; mode = Text }

abbrev pub with_mode : LexerState → Mode → LexerState
with_mode s to = record s { mode = to }

abbrev pub step_word : LexerState → ℕ → Option LexerState
step_word s b = if b == 32 then (after_word s >>= λ t. Some (record t { tokens = t.tokens ++ tokens.Space ∷ [] }))
    else if b == 34 then (after_word s >>= λ t. Some (with_mode t Text))
    else Some (record s { held = s.held ++ b ∷ [] })

abbrev pub step_text : LexerState → ℕ → Option LexerState
step_text s b = if b == 34 then Some (record { tokens = s.tokens ++ tokens.Text s.held ∷ []; held = []; mode = Word })
    else if b == 92 then Some (with_mode s Escape)
    else if nat_le 32 b && nat_le b 126 then Some (with_byte s b) else None

abbrev pub step_escape : LexerState → ℕ → Option LexerState
step_escape s b = if b == 34 then Some (with_byte s b) else if b == 92 then Some (with_byte s b) else if b == 120 then Some (with_mode s High) else None

abbrev pub step_digit : Option ℕ → LexerState → ℕ → Option LexerState
step_digit None s b = hex_value b >>= λ d. Some (with_mode s (Low d))
step_digit (Some high) s b = hex_value b >>= λ d. Some (with_byte s (high * 16 + d))

abbrev pub step_in : Mode → LexerState → ℕ → Option LexerState
step_in Word s b = step_word s b
step_in Text s b = step_text s b
step_in Escape s b = step_escape s b
step_in High s b = step_digit None s b
step_in (Low high) s b = step_digit (Some high) s b

-- one byte more
unfoldable pub step : LexerState → ℕ → Option LexerState
step s b = step_in s.mode s b

-- the end of the line
abbrev pub finish_in : Mode → LexerState → Option (List Token)
finish_in Word s = after_word s >>= λ t. Some t.tokens
finish_in _ s = None

unfoldable pub finish : LexerState → Option (List Token)
finish s = finish_in s.mode s

abbrev pub tokens_in : List ℕ → Option (List Token)
tokens_in line = run step finish start_state line

-- ---- the same by larger steps

abbrev pub at : List Token → List ℕ → Mode → LexerState
at ts held mode = record { tokens = ts; held = held; mode = mode }

-- what is read from a state on
abbrev pub lexed : LexerState → List ℕ → Option (List Token)
lexed s bytes = run step finish s bytes

-- a byte that is said by two digits, and what stands behind them
abbrev pub coded : List ℕ → Option (ℕ × List ℕ)
coded (high ∷ low ∷ rest) = do
  x ← hex_value high
  y ← hex_value low
  Some (x * 16 + y, rest)
coded _ = None

-- the same behind a backslash
abbrev pub escaped : List ℕ → Option (ℕ × List ℕ)
escaped [] = None
escaped (b ∷ rest) = if b == 120 then coded rest else if b == 34 then Some (34, rest) else if b == 92 then Some (92, rest) else None

-- the first byte that a text means, and what stands behind its spelling
abbrev pub character : List ℕ → Option (ℕ × List ℕ)
character [] = None
character (b ∷ rest) = if b == 92 then escaped rest else if nat_le 32 b && nat_le b 126 then Some (b, rest) else None

-- what stands behind a byte, where it stands first
abbrev pub after : ℕ → List ℕ → Option (List ℕ)
after first [] = None
after first (b ∷ rest) = if b == first then Some rest else None

-- a text behind its first quote has this value, and this stands behind its last one, whatever stands before it
pub record IsQuoted (text value rest : List ℕ) : Type 0 where
  pub shorter : length rest < length text
  pub read : (ts : List Token) → lexed (at ts [] Text) text ≡ lexed (at (ts ++ tokens.Text value ∷ []) [] Word) rest

abbrev pub Quotes : {X : Type 0} → (X → List ℕ) → List ℕ → List ℕ → Result X LineError → Type 0
Quotes view text value (Ok rest) = IsQuoted text value (view rest)
Quotes view text value (Err e) = (ts : List Token) → Fails e (lexed (at ts [] Text) text)

-- from a state over some bytes, these tokens and the bytes that are left
pub record GoesTo (s : LexerState) (bytes : List ℕ) (ts : List Token) (rest : List ℕ) : Type 0 where
  pub shorter : length rest < length bytes
  pub read : lexed s bytes ≡ lexed (at ts [] Word) rest

abbrev pub GoesOn : {X : Type 0} → (X → List ℕ) → LexerState → List ℕ → List Token → Result X LineError → Type 0
GoesOn view s bytes ts (Ok rest) = GoesTo s bytes ts (view rest)
GoesOn view s bytes ts (Err e) = Fails e (lexed s bytes)

-- a space or a quote
abbrev pub ends_word : ℕ → Bool
ends_word b = b == 32 || b == 34

-- nothing, or bytes that begin with one of these
abbrev pub EndsHere : List ℕ → Type 0
EndsHere [] = Unit {0}
EndsHere (b ∷ rest) = ends_word b ≡ true

-- bytes begin with a word, which may be empty, and this stands behind it
pub record EndsWord (bytes word rest : List ℕ) : Type 0 where
  pub ends : EndsHere rest
  pub read : (ts : List Token) → lexed (at ts [] Word) bytes ≡ lexed (at ts word Word) rest
