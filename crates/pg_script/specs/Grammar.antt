-- The grammar of a script: how its lines, and the tokens of a line, are spelled.
use Rattle.std.specs.Prelude.{ℕ, ℤ, pos, negsuc, neg_ℤ, true, false, codes, ◌≡◌, ◌≢◌, ◌+◌, ◌/◌, ◌%◌, ◌^◌, ◌≤◌, ◌<◌, ◌∷◌, ◌++◌, ◌⊎◌, [], List, Some, None, Result, Ok, Err, nat_eq, length, IsTrue, IsFalse}
use Rattle.std.specs.Char.{digit_char}
use Rattle.std.specs.List.{AllByRecursion, list_any}
use Rattle.std.specs.Str.{is_utf8}
use Rattle.std.specs.Str.Parse.{IsNumeral, digits_value}
use Rattle.pg_request.specs.Queries.{QueryText, plain_text}
use Rattle.pg_request.specs.declared.naming.Declared.{Declared}
use Rattle.pg_request.specs.declared.naming.Declared.TheVariants as declared
use Rattle.pg_request.specs.declared.preparation.Preparation.{Preparation}
use Rattle.pg_script.specs.declared.argument.Bare.{Bare}
use Rattle.pg_script.specs.declared.argument.Bare.TheVariants as bare
use Rattle.pg_script.specs.declared.argument.Argument.{Argument}
use Rattle.pg_script.specs.declared.argument.Argument.TheVariants as given
use Rattle.pg_script.specs.declared.token.Token.{Token}
use Rattle.pg_script.specs.declared.token.Token.TheVariants.{Space, Word, Number, SslMode, Bare as Bareword, Key, Text}
use Rattle.pg_script.specs.declared.token.Keyword.TheVariants as words
use Rattle.pg_script.specs.declared.token.CallWord.TheVariants as call_words
use Rattle.pg_script.specs.declared.step.Copying.{Copying}
use Rattle.pg_script.specs.declared.step.CopyEnd.{CopyEnd}
use Rattle.pg_script.specs.declared.step.CopyEnd.TheVariants as copy_ends
use Rattle.pg_script.specs.declared.step.Call.{Call}
use Rattle.pg_script.specs.declared.step.Call.TheVariants as calls
use Rattle.pg_script.specs.declared.step.Chain.TheVariants as chains
use Rattle.pg_script.specs.declared.line.Line.{Line}
use Rattle.pg_script.specs.declared.line.Line.TheVariants as lines
use Rattle.pg_script.specs.declared.kind.Kind.{Kind}
use Rattle.pg_script.specs.declared.kind.Kind.TheVariants as kinds
use Rattle.pg_script.specs.declared.script.Script.{Script}
use Rattle.pg_script.specs.declared.live.LiveScript.{LiveScript}
use Rattle.pg_locks.specs.declared.key.PgAdvisoryLockKey.{PgAdvisoryLockKey}
use Rattle.pg_locks.specs.declared.key.PgAdvisoryLockKey.TheVariants.{BigInt, IntPair}
use Rattle.pg_options.specs.SslModes.{ssl_mode_from}
use Rattle.pg_script.specs.Words.{spelling_of}
use Rattle.pg_script.specs.Given.{given_query}
use Rattle.pg_script.specs.Nonces.{IsNonce}
use Rattle.pg_script.specs.Scripts.{add_allowed, as_script, empty_script}
use Rattle.pg_script.specs.declared.error.ReadError.{ReadError}
use Rattle.pg_script.specs.declared.error.ReadError.TheVariants as errors

-- ---- what the calls with a query run: a text alone behind the word `raw`, or one with arguments behind the word `query`, or behind `once` where
-- its statement isn't kept; and how the key of a lock is written: as a number, or as a key that is none

pub data Asked : Type 0 where
  Raw : List ℕ → Asked
  Kept : List ℕ → List Argument → Asked
  Once : List ℕ → List Argument → Asked
  Short : ℕ → Asked
  Long : PgAdvisoryLockKey → Asked

-- texts between commas
abbrev pub comma_tokens : List (List ℕ) → List Token
comma_tokens [] = []
comma_tokens (s ∷ more) = Word words.Comma ∷ Text s ∷ comma_tokens more

abbrev pub text_tokens : List (List ℕ) → List Token
text_tokens [] = []
text_tokens (s ∷ more) = Text s ∷ comma_tokens more

abbrev pub argument_tokens : Argument → List Token
argument_tokens (given.Bare b) = Bareword b ∷ []
argument_tokens (given.Text s) = Word words.Text ∷ Text s ∷ []
argument_tokens (given.Bytea s) = Word words.Bytea ∷ Text s ∷ []
argument_tokens (given.Named name image) = Word words.Named ∷ Text name ∷ Word words.Colon ∷ Text image ∷ []
argument_tokens (given.Texts texts) = Word words.Texts ∷ text_tokens texts

abbrev pub arguments_tokens : List Argument → List Token
arguments_tokens [] = []
arguments_tokens (a ∷ more) = Space ∷ argument_tokens a ++ arguments_tokens more

abbrev pub query_tokens : List ℕ → List Token
query_tokens sql = Space ∷ Text sql ∷ []

abbrev pub asked_tokens : Asked → List Token
asked_tokens (Raw sql) = Space ∷ Word words.Raw ∷ query_tokens sql
asked_tokens (Kept sql arguments) = Space ∷ Word words.Query ∷ Space ∷ Text sql ∷ arguments_tokens arguments
asked_tokens (Once sql arguments) = Space ∷ Word words.Once ∷ Space ∷ Text sql ∷ arguments_tokens arguments
asked_tokens (Short n) = Space ∷ Number n ∷ []
asked_tokens (Long key) = Space ∷ Key key ∷ []

-- the type of a parameter, by its OID or by its name, or of arrays by the name of their elements
abbrev pub type_tokens : Declared → List Token
type_tokens (declared.Number oid) = Number oid ∷ []
type_tokens (declared.Name name) = Word words.Name ∷ Text name ∷ []
type_tokens (declared.ArrayOf element) = Word words.Array ∷ Text element ∷ []

-- those of the first parameters of a text
abbrev pub types_tokens : List Declared → List Token
types_tokens [] = []
types_tokens (d ∷ more) = Space ∷ type_tokens d ++ types_tokens more

abbrev pub preparation_tokens : Preparation → List Token
preparation_tokens p = Space ∷ Text p.sql ∷ types_tokens p.types

-- the data of a copy from the client, in pieces
abbrev pub piece_tokens : List (List ℕ) → List Token
piece_tokens [] = []
piece_tokens (piece ∷ more) = Space ∷ Text piece ∷ piece_tokens more

-- what becomes of a copy, in front of other tokens
abbrev pub end_tokens : CopyEnd → List Token → List Token
end_tokens copy_ends.Finish rest = Word words.Finish ∷ rest
end_tokens (copy_ends.Abort message) rest = Word words.Abort ∷ Space ∷ Text message ∷ rest
end_tokens copy_ends.Leave rest = Word words.Leave ∷ rest

abbrev pub copying_tokens : Copying → List Token
copying_tokens copying = Space ∷ Text copying.sql ∷ Space ∷ end_tokens copying.end (piece_tokens copying.pieces)

-- ---- lines as tokens: one row a line

abbrev pub call_tokens : Asked → Call → List Token
call_tokens asked (calls.Execute query) = Word (words.Call call_words.Execute) ∷ asked_tokens asked
call_tokens asked (calls.ExecuteMany query) = Word (words.Call call_words.ExecuteMany) ∷ asked_tokens asked
call_tokens asked (calls.Fetch query) = Word (words.Call call_words.Fetch) ∷ asked_tokens asked
call_tokens asked (calls.FetchMany query) = Word (words.Call call_words.FetchMany) ∷ asked_tokens asked
call_tokens asked (calls.FetchAll query) = Word (words.Call call_words.FetchAll) ∷ asked_tokens asked
call_tokens asked (calls.FetchOptional query) = Word (words.Call call_words.FetchOptional) ∷ asked_tokens asked
call_tokens asked (calls.FetchOne query) = Word (words.Call call_words.FetchOne) ∷ asked_tokens asked
call_tokens asked calls.Ping = Word (words.Call call_words.Ping) ∷ []
call_tokens asked calls.Flush = Word (words.Call call_words.Flush) ∷ []
call_tokens asked calls.Begin = Word (words.Call call_words.Begin) ∷ []
call_tokens asked (calls.BeginWith query) = Word (words.Call call_words.BeginWith) ∷ query_tokens query.sql
call_tokens asked calls.Commit = Word (words.Call call_words.Commit) ∷ []
call_tokens asked calls.Rollback = Word (words.Call call_words.Rollback) ∷ []
call_tokens asked calls.StartRollback = Word (words.Call call_words.StartRollback) ∷ []
call_tokens asked (calls.Prepare preparation) = Word (words.Call call_words.Prepare) ∷ preparation_tokens preparation
call_tokens asked calls.Clear = Word (words.Call call_words.Clear) ∷ []
call_tokens asked (calls.CopyOut query) = Word (words.Call call_words.CopyOut) ∷ query_tokens query.sql
call_tokens asked (calls.Chain (chains.CopyIn copying)) = Word (words.Call call_words.CopyIn) ∷ copying_tokens copying
call_tokens asked (calls.Chain (chains.Describe sql)) = Word (words.Call call_words.Describe) ∷ query_tokens sql
call_tokens asked (calls.Chain (chains.Lock key)) = Word (words.Call call_words.Lock) ∷ asked_tokens asked
call_tokens asked (calls.Chain (chains.TryLock key)) = Word (words.Call call_words.TryLock) ∷ asked_tokens asked
call_tokens asked (calls.Chain (chains.Unlock key)) = Word (words.Call call_words.Unlock) ∷ asked_tokens asked
call_tokens asked (calls.Chain (chains.DropLock key)) = Word (words.Call call_words.DropLock) ∷ asked_tokens asked
call_tokens asked _ = []

-- digits below 0 have no spelling (`LineFits` has none of them)
abbrev pub tokens_of : Asked → Line → List Token
tokens_of asked lines.Blank = []
tokens_of asked (lines.User name) = Word words.User ∷ Space ∷ Text name ∷ []
tokens_of asked (lines.Password text) = Word words.Password ∷ Space ∷ Text text ∷ []
tokens_of asked (lines.Database name) = Word words.Database ∷ Space ∷ Text name ∷ []
tokens_of asked (lines.Application name) = Word words.Application ∷ Space ∷ Text name ∷ []
tokens_of asked (lines.Option name value) = Word words.Option ∷ Space ∷ Text name ∷ Space ∷ Text value ∷ []
tokens_of asked (lines.SslMode mode) = Word words.SslMode ∷ Space ∷ SslMode mode ∷ []
tokens_of asked (lines.Cache capacity) = Word words.Cache ∷ Space ∷ Number capacity ∷ []
tokens_of asked (lines.Digits None) = Word words.Digits ∷ Space ∷ Word words.None ∷ []
tokens_of asked (lines.Digits (Some (pos n))) = Word words.Digits ∷ Space ∷ Number n ∷ []
tokens_of asked (lines.Digits (Some (negsuc n))) = []
tokens_of asked lines.LinkUpgrade = Word words.Link ∷ Space ∷ Word words.Upgrade ∷ []
tokens_of asked lines.LinkLocal = Word words.Link ∷ Space ∷ Word words.Local ∷ []
tokens_of asked (lines.Nonce bytes) = Word words.Nonce ∷ Space ∷ Text bytes ∷ []
tokens_of asked (lines.Server bytes) = Word words.Server ∷ Space ∷ Text bytes ∷ []
tokens_of asked lines.Wait = Word words.Wait ∷ []
tokens_of asked lines.End = Word words.End ∷ []
tokens_of asked lines.Fail = Word words.Fail ∷ []
tokens_of asked (lines.Take bytes times) = Word words.Take ∷ Space ∷ Number bytes ∷ Space ∷ Number times ∷ []
tokens_of asked lines.Hold = Word words.Hold ∷ []
tokens_of asked lines.Break = Word words.Break ∷ []
tokens_of asked (lines.Start polls) = Word words.Start ∷ Space ∷ Number polls ∷ []
tokens_of asked (lines.Step polls None call) = Word words.Step ∷ Space ∷ Number polls ∷ Space ∷ call_tokens asked call
tokens_of asked (lines.Step polls (Some most) call) = Word words.Step ∷ Space ∷ Number polls ∷ Space ∷ Word words.Most ∷ Space ∷ Number most ∷ Space ∷ call_tokens asked call

-- ---- which values a line may have

-- bytes that stand where a text is meant
abbrev pub IsUnicode : List ℕ → Type 0
IsUnicode s = IsTrue (is_utf8 s)

abbrev pub ArgumentFits : Argument → Type 0
ArgumentFits (given.Bare b) = Unit {0}
ArgumentFits (given.Text s) = IsUnicode s
ArgumentFits (given.Bytea s) = Unit {0}
ArgumentFits (given.Named name image) = IsUnicode name
ArgumentFits (given.Texts texts) = AllByRecursion IsUnicode texts

abbrev pub QueryFits : QueryText → Type 0
QueryFits query = IsUnicode query.sql × (query ≡ plain_text query.sql)

-- the query is what is asked; an argument whose encoding has more than 2147483647 bytes makes none
abbrev pub AskedFits : Asked → QueryText → Type 0
AskedFits (Raw sql) query = IsUnicode sql × (query ≡ plain_text sql)
AskedFits (Kept sql arguments) query = IsUnicode sql × AllByRecursion ArgumentFits arguments × (given_query true sql arguments ≡ Some query)
AskedFits (Once sql arguments) query = IsUnicode sql × AllByRecursion ArgumentFits arguments × (given_query false sql arguments ≡ Some query)
AskedFits _ query = ⊥

-- the key is the one that is written
abbrev pub KeyFits : Asked → PgAdvisoryLockKey → Type 0
KeyFits (Short n) key = key ≡ BigInt (pos n)
KeyFits (Long other) key = key ≡ other
KeyFits _ key = ⊥

abbrev pub EndFits : CopyEnd → Type 0
EndFits (copy_ends.Abort message) = IsUnicode message
EndFits _ = Unit {0}

abbrev pub CopyFits : Copying → Type 0
CopyFits copying = IsUnicode copying.sql × EndFits copying.end

abbrev pub TypeFits : Declared → Type 0
TypeFits (declared.Number oid) = Unit {0}
TypeFits (declared.Name name) = IsUnicode name
TypeFits (declared.ArrayOf element) = IsUnicode element

abbrev pub PreparationFits : Preparation → Type 0
PreparationFits p = IsUnicode p.sql × AllByRecursion TypeFits p.types

abbrev pub CallFits : Asked → Call → Type 0
CallFits asked (calls.Execute query) = AskedFits asked query
CallFits asked (calls.ExecuteMany query) = AskedFits asked query
CallFits asked (calls.Fetch query) = AskedFits asked query
CallFits asked (calls.FetchMany query) = AskedFits asked query
CallFits asked (calls.FetchAll query) = AskedFits asked query
CallFits asked (calls.FetchOptional query) = AskedFits asked query
CallFits asked (calls.FetchOne query) = AskedFits asked query
CallFits asked calls.Ping = Unit {0}
CallFits asked calls.Flush = Unit {0}
CallFits asked calls.Begin = Unit {0}
CallFits asked (calls.BeginWith query) = QueryFits query
CallFits asked calls.Commit = Unit {0}
CallFits asked calls.Rollback = Unit {0}
CallFits asked calls.StartRollback = Unit {0}
CallFits asked (calls.Prepare preparation) = PreparationFits preparation
CallFits asked calls.Clear = Unit {0}
CallFits asked (calls.CopyOut query) = QueryFits query
CallFits asked (calls.Chain (chains.CopyIn copying)) = CopyFits copying
CallFits asked (calls.Chain (chains.Describe sql)) = IsUnicode sql
CallFits asked (calls.Chain (chains.Lock key)) = KeyFits asked key
CallFits asked (calls.Chain (chains.TryLock key)) = KeyFits asked key
CallFits asked (calls.Chain (chains.Unlock key)) = KeyFits asked key
CallFits asked (calls.Chain (chains.DropLock key)) = KeyFits asked key
CallFits asked _ = ⊥

abbrev pub LineFits : Asked → Line → Type 0
LineFits asked lines.Blank = ⊥
LineFits asked (lines.User name) = IsUnicode name
LineFits asked (lines.Password text) = IsUnicode text
LineFits asked (lines.Database name) = IsUnicode name
LineFits asked (lines.Application name) = IsUnicode name
LineFits asked (lines.Option name value) = IsUnicode name × IsUnicode value
LineFits asked (lines.Digits (Some (pos n))) = n ≤ 3
LineFits asked (lines.Digits (Some (negsuc n))) = ⊥
LineFits asked (lines.Nonce bytes) = IsNonce bytes
LineFits asked (lines.Take bytes times) = (1 ≤ bytes) × (1 ≤ times) × (times ≤ 1000000)
LineFits asked (lines.Step polls most call) = CallFits asked call
LineFits asked _ = Unit {0}

-- ---- tokens as bytes

-- printable ASCII other than a quote and a backslash
abbrev pub IsOrdinary : ℕ → Type 0
IsOrdinary c = (32 ≤ c) × (c ≤ 126) × (c ≢ 34) × (c ≢ 92)

-- a byte of a text in one of its spellings: itself, a quote or a backslash behind a backslash, or \xHH in lower case
abbrev pub IsCharacter : ℕ → List ℕ → Type 0
IsCharacter c a =
    ((a ≡ c ∷ []) × IsOrdinary c)
    ⊎ (((a ≡ 92 ∷ c ∷ []) × ((c ≡ 34) ⊎ (c ≡ 92)))
    ⊎ ((a ≡ 92 ∷ 120 ∷ digit_char (c / 16) ∷ digit_char (c % 16) ∷ []) × (c < 256)))

abbrev pub IsText : List ℕ → List ℕ → Type 0
IsText [] a = a ≡ []
IsText (c ∷ cs) a = (x y : List ℕ) × IsCharacter c x × IsText cs y × (a ≡ x ++ y)

-- one to ten decimal digits, at most 4294967295
abbrev pub IsNumber : ℕ → List ℕ → Type 0
IsNumber n a = IsNumeral 10 a × (length a ≤ 10) × (digits_value 10 a ≡ n) × (n < 2 ^ 32)

-- one or more decimal digits, perhaps behind a minus, of a number from -limit to limit - 1
abbrev pub IsInteger : ℕ → ℤ → List ℕ → Type 0
IsInteger limit z a =
    (IsNumeral 10 a × (digits_value 10 a < limit) × (z ≡ pos (digits_value 10 a)))
    ⊎ ((d : List ℕ) × (a ≡ 45 ∷ d) × IsNumeral 10 d × (digits_value 10 d ≤ limit) × (z ≡ neg_ℤ (pos (digits_value 10 d))))

-- numbers between commas, or none
abbrev pub AreIntegers : ℕ → List ℤ → List ℕ → Type 0
AreIntegers limit [] a = a ≡ []
AreIntegers limit (z ∷ []) a = IsInteger limit z a
AreIntegers limit (z ∷ y ∷ more) a = (d rest : List ℕ) × IsInteger limit z d × AreIntegers limit (y ∷ more) rest × (a ≡ d ++ 44 ∷ rest)

abbrev pub SpellsBare : Bare → List ℕ → Type 0
SpellsBare (bare.Null oid) a = (d : List ℕ) × (a ≡ codes "null:" ++ d) × IsNumber oid d
SpellsBare (bare.Bool true) a = a ≡ codes "bool:t"
SpellsBare (bare.Bool false) a = a ≡ codes "bool:f"
SpellsBare (bare.Int2 z) a = (d : List ℕ) × (a ≡ codes "int2:" ++ d) × IsInteger (2 ^ 15) z d
SpellsBare (bare.Int4 z) a = (d : List ℕ) × (a ≡ codes "int4:" ++ d) × IsInteger (2 ^ 31) z d
SpellsBare (bare.Int8 z) a = (d : List ℕ) × (a ≡ codes "int8:" ++ d) × IsInteger (2 ^ 63) z d
SpellsBare (bare.Oid n) a = (d : List ℕ) × (a ≡ codes "oid:" ++ d) × IsNumber n d
SpellsBare (bare.Int4s zs) a = (d : List ℕ) × (a ≡ codes "int4s:" ++ d) × AreIntegers (2 ^ 31) zs d

-- a number of 64 bits with a sign, or two of 32 bits that a comma joins
abbrev pub IsKey : PgAdvisoryLockKey → List ℕ → Type 0
IsKey (BigInt z) a = IsInteger (2 ^ 63) z a
IsKey (IntPair y z) a = (d e : List ℕ) × IsInteger (2 ^ 31) y d × IsInteger (2 ^ 31) z e × (a ≡ d ++ 44 ∷ e)

abbrev pub SpellsToken : Token → List ℕ → Type 0
SpellsToken Space a = a ≡ 32 ∷ []
SpellsToken (Word k) a = a ≡ spelling_of k
SpellsToken (Number n) a = IsNumber n a
SpellsToken (SslMode mode) a = ssl_mode_from a ≡ Some mode
SpellsToken (Bareword b) a = SpellsBare b a
SpellsToken (Key key) a = IsKey key a × ((n : ℕ) → IsNumber n a → ⊥)
SpellsToken (Text s) a = (q : List ℕ) × IsText s q × (a ≡ 34 ∷ q ++ 34 ∷ [])

abbrev pub SpellsAll : List Token → List ℕ → Type 0
SpellsAll [] a = a ≡ []
SpellsAll (t ∷ ts) a = (x y : List ℕ) × SpellsToken t x × SpellsAll ts y × (a ≡ x ++ y)

-- a line with this value: nothing, a comment, or the tokens of its row
abbrev pub SpellsLine : Line → List ℕ → Type 0
SpellsLine lines.Blank a = (a ≡ []) ⊎ ((rest : List ℕ) × (a ≡ 35 ∷ rest) × IsTrue (is_utf8 a))
SpellsLine l a = (asked : Asked) × LineFits asked l × SpellsAll (tokens_of asked l) a

-- ---- scripts

abbrev pub HasNoLineFeed : List ℕ → Type 0
HasNoLineFeed line = IsFalse (list_any (nat_eq 10) line)

-- the lines of a text: it is these joined by line feeds, and none of them has one
abbrev pub AreLines : List (List ℕ) → List ℕ → Type 0
AreLines [] text = ⊥
AreLines (l ∷ []) text = HasNoLineFeed l × (text ≡ l)
AreLines (l ∷ k ∷ ls) text = HasNoLineFeed l × ((rest : List ℕ) × (text ≡ l ++ 10 ∷ rest) × AreLines (k ∷ ls) rest)

-- the lines, all good in a script of this kind, make one script of the other
abbrev pub Adds : Kind → Script → List (List ℕ) → Script → Type 0
Adds kind s [] t = s ≡ t
Adds kind s (a ∷ rest) t = (l : Line) × (u : Script) × SpellsLine l a × (add_allowed kind s l ≡ Some u) × Adds kind u rest t

-- line number n, counted from 1, is the first that is no line of such a script, or stands there once too often
abbrev pub FirstBad : Kind → Script → List (List ℕ) → ℕ → Type 0
FirstBad kind s all n = (front rest : List (List ℕ)) × (bad : List ℕ) × (u : Script) × (all ≡ front ++ bad ∷ rest) × (length front + 1 ≡ n) × Adds kind s front u × ((l : Line) → SpellsLine l bad → add_allowed kind u l ≡ None)

-- the text is a spelling of this script
abbrev pub IsScript : Kind → Script → List ℕ → Type 0
IsScript kind s text = (length text ≤ 67108864) × ((ls : List (List ℕ)) × AreLines ls text × Adds kind empty_script ls s)

-- the number of the text's first bad line, or 0 where it is too long
abbrev pub IsBadLine : Kind → ℕ → List ℕ → Type 0
IsBadLine kind n text = ((67108864 < length text) × (n ≡ 0)) ⊎ ((length text ≤ 67108864) × ((ls : List (List ℕ)) × AreLines ls text × FirstBad kind empty_script ls n))

-- what the grammar says of a text and its answer
abbrev pub SaysOf : Kind → Result Script ReadError → List ℕ → Type 0
SaysOf kind (Ok s) text = IsScript kind s text
SaysOf kind (Err (errors.BadLine n)) text = IsBadLine kind n text
SaysOf kind (Err errors.OutOfMemory) text = Unit {0}

-- a spelling of a script gives that script, and a text with a first bad line its number, unless memory ran out
abbrev pub ReadsOf : Kind → Result Script ReadError → List ℕ → Type 0
ReadsOf kind answer text = (s : Script) → IsScript kind s text → (answer ≡ Ok s) ⊎ (answer ≡ Err errors.OutOfMemory)

abbrev pub RefusesOf : Kind → Result Script ReadError → List ℕ → Type 0
RefusesOf kind answer text = (n : ℕ) → IsBadLine kind n text → (answer ≡ Err (errors.BadLine n)) ⊎ (answer ≡ Err errors.OutOfMemory)

-- the same of a script that is played over a link in memory
abbrev pub Says : Result Script ReadError → List ℕ → Type 0
Says answer text = SaysOf kinds.Memory answer text

abbrev pub Reads : Result Script ReadError → List ℕ → Type 0
Reads answer text = ReadsOf kinds.Memory answer text

abbrev pub Refuses : Result Script ReadError → List ℕ → Type 0
Refuses answer text = RefusesOf kinds.Memory answer text

-- and of one that is played over a real link
abbrev pub SaysLive : Result LiveScript ReadError → List ℕ → Type 0
SaysLive answer text = SaysOf kinds.Live (as_script answer) text

abbrev pub ReadsLive : Result LiveScript ReadError → List ℕ → Type 0
ReadsLive answer text = ReadsOf kinds.Live (as_script answer) text

abbrev pub RefusesLive : Result LiveScript ReadError → List ℕ → Type 0
RefusesLive answer text = RefusesOf kinds.Live (as_script answer) text
