-- The words of a script, and its numbers.
use Rattle.std.specs.Prelude.{◌+◌, ◌*◌, ◌-◌, ◌^◌, ◌∷◌, ◌&&◌, ◌||◌, ◌==◌, [], List, ℕ, ℤ, pos, neg_ℤ, Bool, true, false, Option, Some, None, codes, bytes_eq, nat_lt, nat_le, length, take, drop, if◌then◌else◌}
use Rattle.std.specs.List.{slice_split}
use Rattle.pg_script.specs.declared.token.Keyword.{Keyword}
use Rattle.pg_script.specs.declared.token.Keyword.TheVariants as words
use Rattle.pg_script.specs.declared.token.CallWord.{CallWord}
use Rattle.pg_script.specs.declared.token.CallWord.TheVariants as call_words
use Rattle.pg_script.specs.declared.token.BareWord.{BareWord}
use Rattle.pg_script.specs.declared.token.BareWord.TheVariants as bare_words
use Rattle.pg_script.specs.declared.argument.Bare.{Bare}
use Rattle.pg_script.specs.declared.argument.Bare.TheVariants as bare
use Rattle.pg_script.specs.declared.token.Token.{Token}
use Rattle.pg_script.specs.declared.token.Token.TheVariants as tokens
use Rattle.pg_locks.specs.declared.key.PgAdvisoryLockKey.{PgAdvisoryLockKey}
use Rattle.pg_locks.specs.declared.key.PgAdvisoryLockKey.TheVariants.{BigInt, IntPair}
use Rattle.pg_options.specs.declared.ssl_mode.PgSslMode.{PgSslMode}
use Rattle.pg_options.specs.SslModes.{ssl_mode_from}
use Rattle.pg_script.specs.Reading.{◌>>=◌}
use Rattle.pg_script.specs.Arguments.{text_in}

-- how a word that names a call is spelled
abbrev pub call_spelling : CallWord → List ℕ
call_spelling call_words.Execute = codes "execute"
call_spelling call_words.ExecuteMany = codes "execute_many"
call_spelling call_words.Fetch = codes "fetch"
call_spelling call_words.FetchMany = codes "fetch_many"
call_spelling call_words.FetchAll = codes "fetch_all"
call_spelling call_words.FetchOptional = codes "fetch_optional"
call_spelling call_words.FetchOne = codes "fetch_one"
call_spelling call_words.Ping = codes "ping"
call_spelling call_words.Flush = codes "flush"
call_spelling call_words.Begin = codes "begin"
call_spelling call_words.BeginWith = codes "begin_with"
call_spelling call_words.Commit = codes "commit"
call_spelling call_words.Rollback = codes "rollback"
call_spelling call_words.StartRollback = codes "start_rollback"
call_spelling call_words.Prepare = codes "prepare"
call_spelling call_words.Clear = codes "clear"
call_spelling call_words.CopyIn = codes "copyin"
call_spelling call_words.CopyOut = codes "copyout"
call_spelling call_words.Describe = codes "describe"
call_spelling call_words.Lock = codes "lock"
call_spelling call_words.TryLock = codes "trylock"
call_spelling call_words.Unlock = codes "unlock"
call_spelling call_words.DropLock = codes "droplock"

-- how a word is spelled
abbrev pub spelling_of : Keyword → List ℕ
spelling_of words.User = codes "user"
spelling_of words.Password = codes "password"
spelling_of words.Database = codes "database"
spelling_of words.Application = codes "application"
spelling_of words.Option = codes "option"
spelling_of words.SslMode = codes "sslmode"
spelling_of words.Cache = codes "cache"
spelling_of words.Digits = codes "digits"
spelling_of words.None = codes "none"
spelling_of words.Link = codes "link"
spelling_of words.Upgrade = codes "upgrade"
spelling_of words.Local = codes "local"
spelling_of words.Nonce = codes "nonce"
spelling_of words.Server = codes "server"
spelling_of words.Wait = codes "wait"
spelling_of words.End = codes "end"
spelling_of words.Fail = codes "fail"
spelling_of words.Take = codes "take"
spelling_of words.Hold = codes "hold"
spelling_of words.Break = codes "break"
spelling_of words.Start = codes "start"
spelling_of words.Step = codes "step"
spelling_of words.Most = codes "most"
spelling_of words.Raw = codes "raw"
spelling_of words.Query = codes "query"
spelling_of words.Once = codes "once"
spelling_of words.Finish = codes "finish"
spelling_of words.Abort = codes "abort"
spelling_of words.Leave = codes "leave"
spelling_of words.Text = codes "text:"
spelling_of words.Bytea = codes "bytea:"
spelling_of words.Texts = codes "texts:"
spelling_of words.Comma = codes ","
spelling_of words.Named = codes "named:"
spelling_of words.Colon = codes ":"
spelling_of words.Name = codes "name:"
spelling_of words.Array = codes "array:"
spelling_of (words.Call word) = call_spelling word

abbrev pub all_words : List Keyword
all_words = words.Step ∷ words.Server ∷ words.Raw ∷ words.Query ∷ words.Once ∷ words.Finish ∷ words.Abort ∷ words.Leave ∷ words.Text ∷ words.Bytea ∷ words.Texts ∷ words.Comma ∷ words.Named ∷ words.Colon ∷ words.Name ∷ words.Array ∷ words.Wait ∷ words.Call call_words.Execute ∷ words.Call call_words.Fetch ∷ words.Call call_words.FetchAll ∷ words.Call call_words.FetchOne
    ∷ words.Call call_words.FetchOptional ∷ words.Call call_words.FetchMany ∷ words.Call call_words.ExecuteMany ∷ words.Call call_words.Ping ∷ words.Call call_words.Flush ∷ words.Call call_words.Begin
    ∷ words.Call call_words.BeginWith ∷ words.Call call_words.Commit ∷ words.Call call_words.Rollback ∷ words.Call call_words.StartRollback ∷ words.Call call_words.Prepare ∷ words.Call call_words.Clear ∷ words.Call call_words.CopyIn ∷ words.Call call_words.CopyOut ∷ words.Call call_words.Describe ∷ words.Call call_words.Lock ∷ words.Call call_words.TryLock ∷ words.Call call_words.Unlock ∷ words.Call call_words.DropLock ∷ words.Most ∷ words.Take ∷ words.Hold ∷ words.End
    ∷ words.Fail ∷ words.Break ∷ words.Start ∷ words.User ∷ words.Password ∷ words.Database ∷ words.Application ∷ words.Option ∷ words.SslMode ∷ words.Cache ∷ words.Digits ∷ words.None ∷ words.Link ∷ words.Upgrade
    ∷ words.Local ∷ words.Nonce ∷ []

abbrev pub is_digit : ℕ → Bool
is_digit b = nat_le 48 b && nat_le b 57

-- the digits, most significant first, behind the number so far
abbrev pub digits_after : ℕ → List ℕ → Option ℕ
digits_after n [] = Some n
digits_after n (b ∷ bs) = if is_digit b then digits_after (n * 10 + (b - 48)) bs else None

-- one to ten digits, at most 4294967295
abbrev pub number_of : List ℕ → Option ℕ
number_of [] = None
number_of (b ∷ bs) = if nat_lt 9 (length bs) then None else digits_after 0 (b ∷ bs) >>= λ n. if nat_lt n (2 ^ 32) then Some n else None

-- the first of these words that is spelled so
abbrev pub keyword_among : List Keyword → List ℕ → Option Keyword
keyword_among [] word = None
keyword_among (k ∷ ks) word = if bytes_eq word (spelling_of k) then Some k else keyword_among ks word

unfoldable pub keyword_of : List ℕ → Option Keyword
keyword_of = keyword_among all_words

-- the mode with this name in any ASCII case
abbrev pub mode_of : List ℕ → Option PgSslMode
mode_of word = text_in word >>= ssl_mode_from

-- ---- arguments that stand without quotes

-- how such a word begins
abbrev pub bare_spelling : BareWord → List ℕ
bare_spelling bare_words.Null = codes "null:"
bare_spelling bare_words.Bool = codes "bool:"
bare_spelling bare_words.Int2 = codes "int2:"
bare_spelling bare_words.Int4 = codes "int4:"
bare_spelling bare_words.Int8 = codes "int8:"
bare_spelling bare_words.Oid = codes "oid:"
bare_spelling bare_words.Int4s = codes "int4s:"

abbrev pub all_bare_words : List BareWord
all_bare_words = bare_words.Int4 ∷ bare_words.Int8 ∷ bare_words.Int2 ∷ bare_words.Bool ∷ bare_words.Null ∷ bare_words.Oid ∷ bare_words.Int4s ∷ []

-- what stands behind a front, where it stands first
abbrev pub behind : List ℕ → List ℕ → Option (List ℕ)
behind front word = if bytes_eq (take (length front) word) front then Some (drop (length front) word) else None

abbrev pub begun_by : BareWord → Option (List ℕ) → Option (BareWord × List ℕ) → Option (BareWord × List ℕ)
begun_by first None others = others
begun_by first (Some rest) others = Some (first, rest)

-- the first of these that the word begins with, and what stands behind it
abbrev pub begun : List BareWord → List ℕ → Option (BareWord × List ℕ)
begun [] word = None
begun (k ∷ ks) word = begun_by k (behind (bare_spelling k) word) (begun ks word)

abbrev pub bool_of : List ℕ → Option Bool
bool_of (b ∷ []) = if b == 116 then Some true else if b == 102 then Some false else None
bool_of _ = None

-- a text that does not begin with a plus
abbrev pub signed_text : List ℕ → Option (List ℕ)
signed_text [] = text_in []
signed_text (b ∷ bs) = if b == 43 then None else text_in (b ∷ bs)

abbrev pub magnitude : List ℕ → Option ℕ
magnitude [] = None
magnitude (b ∷ bs) = digits_after 0 (b ∷ bs)

abbrev pub negative : ℕ → ℕ → Option ℤ
negative limit n = if nat_le n limit then Some (neg_ℤ (pos n)) else None

abbrev pub positive : ℕ → ℕ → Option ℤ
positive limit n = if nat_lt n limit then Some (pos n) else None

-- one or more digits, perhaps behind a minus, of a number from -limit to limit - 1
abbrev pub integer_in : ℕ → List ℕ → Option ℤ
integer_in limit [] = None
integer_in limit (b ∷ bs) = if b == 45 then magnitude bs >>= negative limit else magnitude (b ∷ bs) >>= positive limit

abbrev pub integer_of : ℕ → List ℕ → Option ℤ
integer_of limit bytes = signed_text bytes >>= integer_in limit

abbrev pub each_integer : List (List ℕ) → Option (List ℤ)
each_integer [] = Some []
each_integer (p ∷ ps) = do
  z ← integer_of (2 ^ 31) p
  zs ← each_integer ps
  Some (z ∷ zs)

-- numbers between commas, or none
abbrev pub integers_of : List ℕ → Option (List ℤ)
integers_of [] = Some []
integers_of (b ∷ bs) = each_integer (slice_split (λ c. c == 44) (b ∷ bs))

abbrev pub bare_with : BareWord → List ℕ → Option Bare
bare_with bare_words.Null bytes = number_of bytes >>= λ n. Some (bare.Null n)
bare_with bare_words.Bool bytes = bool_of bytes >>= λ b. Some (bare.Bool b)
bare_with bare_words.Int2 bytes = integer_of (2 ^ 15) bytes >>= λ z. Some (bare.Int2 z)
bare_with bare_words.Int4 bytes = integer_of (2 ^ 31) bytes >>= λ z. Some (bare.Int4 z)
bare_with bare_words.Int8 bytes = integer_of (2 ^ 63) bytes >>= λ z. Some (bare.Int8 z)
bare_with bare_words.Oid bytes = number_of bytes >>= λ n. Some (bare.Oid n)
bare_with bare_words.Int4s bytes = integers_of bytes >>= λ zs. Some (bare.Int4s zs)

unfoldable pub bare_of : List ℕ → Option Bare
bare_of word = begun all_bare_words word >>= λ x. bare_with x.0 x.1

-- ---- keys of locks

-- a digit or a minus stands first
abbrev pub begins_key : List ℕ → Bool
begins_key [] = false
begins_key (b ∷ bs) = b == 45 || is_digit b

abbrev pub key_from : List (List ℕ) → Option PgAdvisoryLockKey
key_from (a ∷ []) = integer_of (2 ^ 63) a >>= λ z. Some (BigInt z)
key_from (a ∷ b ∷ []) = do
  y ← integer_of (2 ^ 31) a
  z ← integer_of (2 ^ 31) b
  Some (IntPair y z)
key_from _ = None

-- one number, or two that a comma joins
abbrev pub key_of : List ℕ → Option PgAdvisoryLockKey
key_of word = key_from (slice_split (λ c. c == 44) word)

-- ---- tokens

abbrev pub other_of : List ℕ → Option Token
other_of word = if begins_key word then key_of word >>= (λ k. Some (tokens.Key k)) else bare_of word >>= (λ b. Some (tokens.Bare b))

abbrev pub first_of : Option ℕ → Option Keyword → Option PgSslMode → Option Token → Option Token
first_of (Some n) word mode other = Some (tokens.Number n)
first_of None (Some k) mode other = Some (tokens.Word k)
first_of None None (Some m) other = Some (tokens.SslMode m)
first_of None None None other = other

-- a number, a word, the name of a mode, the key of a lock or an argument
unfoldable pub token_of : List ℕ → Option Token
token_of word = first_of (number_of word) (keyword_of word) (mode_of word) (other_of word)
