-- What stands behind a word, read from its tokens.
use Rattle.std.specs.Prelude.{◌∷◌, [], List, ℕ, ℤ, pos, Option, Some, None, nat_le, if◌then◌else◌}
use Rattle.std.specs.Str.{is_utf8}
use Rattle.pg_script.specs.declared.token.Token.{Token}
use Rattle.pg_script.specs.declared.token.Token.TheVariants.{Space, Word, Number, SslMode, Key, Text}
use Rattle.pg_script.specs.declared.token.Keyword.TheVariants as words
use Rattle.pg_locks.specs.declared.key.PgAdvisoryLockKey.{PgAdvisoryLockKey}
use Rattle.pg_locks.specs.declared.key.PgAdvisoryLockKey.TheVariants.{BigInt}
use Rattle.pg_options.specs.declared.ssl_mode.PgSslMode.{PgSslMode}
use Rattle.pg_script.specs.Reading.{◌>>=◌}
use Rattle.pg_script.specs.Nonces.{nonce_in}

-- UTF-8
abbrev pub text_in : List ℕ → Option (List ℕ)
text_in s = if is_utf8 s then Some s else None

-- nothing, which leaves a value as it is
abbrev pub alone : {A : Type 0} → A → List Token → Option A
alone x [] = Some x
alone x _ = None

abbrev pub bytes_arg : List Token → Option (List ℕ)
bytes_arg (Space ∷ Text s ∷ []) = Some s
bytes_arg _ = None

abbrev pub text_arg : List Token → Option (List ℕ)
text_arg ts = bytes_arg ts >>= text_in

abbrev pub nonce_arg : List Token → Option (List ℕ)
nonce_arg ts = bytes_arg ts >>= nonce_in

abbrev pub mode_arg : List Token → Option PgSslMode
mode_arg (Space ∷ SslMode mode ∷ []) = Some mode
mode_arg _ = None

abbrev pub pair_arg : List Token → Option (List ℕ × List ℕ)
pair_arg (Space ∷ Text s ∷ Space ∷ Text t ∷ []) = do
  name ← text_in s
  value ← text_in t
  Some (name, value)
pair_arg _ = None

-- a number, and the tokens behind it
abbrev pub number_arg : List Token → Option (ℕ × List Token)
number_arg (Space ∷ Number n ∷ rest) = Some (n, rest)
number_arg _ = None

abbrev pub last_number : List Token → Option ℕ
last_number (Space ∷ Number n ∷ []) = Some n
last_number _ = None

-- the key of a lock, which may be a number
abbrev pub key_arg : List Token → Option PgAdvisoryLockKey
key_arg (Space ∷ Number n ∷ []) = Some (BigInt (pos n))
key_arg (Space ∷ Key k ∷ []) = Some k
key_arg _ = None

-- a number up to 3
abbrev pub digit_in : ℕ → Option ℤ
digit_in n = if nat_le n 3 then Some (pos n) else None

-- the word `none`, or a number up to 3
abbrev pub digits_arg : List Token → Option (Option ℤ)
digits_arg (Space ∷ Word words.None ∷ []) = Some None
digits_arg (Space ∷ Number n ∷ []) = digit_in n >>= λ digit. Some (Some digit)
digits_arg _ = None
