-- The lines that are read are those of the table.
use Rattle.std.proofs.Common.{ℕ, ◌≡◌, ◌≤◌, ◌∷◌, [], List, Option, Some, None, Bool, true, false, cond, nat_eq, nat_lt, nat_le, refl, sym, ap, ◌∙◌, subst, arith}
use Rattle.std.specs.Prelude.{◌||◌, ℤ, pos, negsuc}
use Rattle.std.specs.Str.{is_utf8}
use Rattle.std.proofs.lemmas.Bool.Decides.{nat_tests}
use Rattle.pg_request.specs.Queries.{QueryText, plain_text}
use Rattle.pg_script.specs.declared.token.Token.{Token}
use Rattle.pg_script.specs.declared.token.Token.TheVariants.{Space, Word, Number, SslMode, Key, Text}
use Rattle.pg_script.specs.declared.token.Keyword.{Keyword}
use Rattle.pg_script.specs.declared.token.Keyword.TheVariants as words
use Rattle.pg_script.specs.declared.token.CallWord.{CallWord}
use Rattle.pg_script.specs.declared.token.CallWord.TheVariants as call_words
use Rattle.pg_script.specs.declared.step.Call.{Call}
use Rattle.pg_script.specs.declared.step.Call.TheVariants as calls
use Rattle.pg_script.specs.declared.step.Chain.TheVariants as chains
use Rattle.pg_script.specs.declared.line.Line.{Line}
use Rattle.pg_script.specs.declared.line.Line.TheVariants as lines
use Rattle.pg_script.specs.Reading.{◌>>=◌}
use Rattle.pg_script.specs.Arguments.{alone, bytes_arg, text_in, text_arg, nonce_arg, mode_arg, pair_arg, number_arg, last_number, key_arg, digits_arg}
use Rattle.pg_script.specs.Asking.{query_arg, asked_arg, prepare_arg, copying_arg}
use Rattle.pg_script.proofs.CopyingLaws.{copying_takes, copying_again, copying_apart}
use Rattle.pg_script.specs.Lines.{call_with, call_arg, take_of, take_line, most_arg, step_line, link_line, line_with, line_from}
use Rattle.pg_script.specs.Grammar.{PreparationFits, Asked, Raw, Kept, Once, Short, Long, KeyFits, query_tokens, asked_tokens, copying_tokens, preparation_tokens, tokens_of, call_tokens, IsUnicode, CopyFits, QueryFits, AskedFits, LineFits, CallFits}
use Rattle.pg_locks.specs.declared.key.PgAdvisoryLockKey.{PgAdvisoryLockKey}
use Rattle.pg_locks.specs.declared.key.PgAdvisoryLockKey.TheVariants.{BigInt}
use Rattle.pg_options.specs.declared.ssl_mode.PgSslMode.{PgSslMode}
use Rattle.pg_script.specs.Nonces.{IsNonce, is_nonce, nonce_in}
use Rattle.pg_script.proofs.Found.{bind_some, utf8_takes}
use Rattle.pg_script.proofs.Apart.{apart}
use Rattle.pg_script.proofs.AskedLaws.{given_takes, given_again, arguments_apart}
use Rattle.pg_script.proofs.PrepareLaws.{number_takes, prepare_takes, prepare_again, types_apart}
use Rattle.pg_script.proofs.NonceLaws.{nonce_lawful, nonce_passes}
use Rattle.std.proofs.lemmas.Option.{same_Some}

-- the tokens are those of the line, which may have its values
abbrev pub IsLine : List Token → Line → Type 0
IsLine ts l = (asked : Asked) × (ts ≡ tokens_of asked l) × LineFits asked l

-- what is asked where nothing is
abbrev nothing : Asked
nothing = Raw []

-- ---- arguments

-- the tokens that a reader takes
abbrev Takes : {A : Type 0} → (List Token → Option A) → (A → List Token) → (A → Type 0) → Type 0
Takes {A} read tokens Fits = (ts : List Token) (x : A) → read ts ≡ Some x → (ts ≡ tokens x) × Fits x

abbrev anything : {A : Type 0} → A → Type 0
anything x = Unit {0}

abbrev text_tokens : List ℕ → List Token
text_tokens s = Space ∷ Text s ∷ []

abbrev number_tokens : ℕ → List Token
number_tokens n = Space ∷ Number n ∷ []

bytes_takes : Takes bytes_arg text_tokens anything
bytes_takes (Space ∷ Text s ∷ []) t e = (cc, tt)
bytes_takes _ t e = absurd cc

text_takes : Takes text_arg text_tokens IsUnicode
text_takes ts s e =
    let b = bind_some (bytes_arg ts) text_in s e in
    let u = utf8_takes (is_utf8 b.0) b.0 s b.2 in
    ((bytes_takes ts b.0 b.1).0 ∙ ap text_tokens u.1, subst IsUnicode u.1 u.0)

nonce_takes_in : (good : Bool) (s t : List ℕ) → is_nonce s ≡ good → cond good (Some s) None ≡ Some t → IsNonce s × (s ≡ t)
nonce_takes_in true s t is e = (nonce_lawful s is, cc)
nonce_takes_in false s t is e = absurd cc

nonce_takes : Takes nonce_arg text_tokens IsNonce
nonce_takes ts s e =
    let b = bind_some (bytes_arg ts) nonce_in s e in
    let n = nonce_takes_in (is_nonce b.0) b.0 s refl b.2 in
    ((bytes_takes ts b.0 b.1).0 ∙ ap text_tokens n.1, subst IsNonce n.1 n.0)

abbrev mode_tokens : PgSslMode → List Token
mode_tokens mode = Space ∷ SslMode mode ∷ []

mode_takes : Takes mode_arg mode_tokens anything
mode_takes (Space ∷ SslMode m ∷ []) mode e = (cc, tt)
mode_takes _ mode e = absurd cc

abbrev pair_tokens : List ℕ × List ℕ → List Token
pair_tokens p = Space ∷ Text p.0 ∷ Space ∷ Text p.1 ∷ []

abbrev ArePair : List ℕ × List ℕ → Type 0
ArePair p = IsUnicode p.0 × IsUnicode p.1

same_pair : (s t u v : List ℕ) (p : List ℕ × List ℕ) → s ≡ u → t ≡ v → (u, v) ≡ p → (s, t) ≡ p
same_pair s t u v p e f g = ap (λ (x : List ℕ). (x, t)) e ∙ ap (λ (y : List ℕ). (u, y)) f ∙ g

pair_takes : Takes pair_arg pair_tokens ArePair
pair_takes (Space ∷ Text s ∷ Space ∷ Text t ∷ []) p e =
    let b = bind_some (text_in s) (λ (name : List ℕ). text_in t >>= λ value. Some (name, value)) p e in
    let d = bind_some (text_in t) (λ (value : List ℕ). Some (b.0, value)) p b.2 in
    let u = utf8_takes (is_utf8 s) s b.0 b.1 in
    let v = utf8_takes (is_utf8 t) t d.0 d.1 in
    subst (λ (q : List ℕ × List ℕ). (Space ∷ Text s ∷ Space ∷ Text t ∷ [] ≡ pair_tokens q) × ArePair q) (same_pair s t b.0 d.0 p u.1 v.1 (same_Some _ p d.2)) (refl, (u.0, v.0))
pair_takes _ p e = absurd cc

last_takes : Takes last_number number_tokens anything
last_takes (Space ∷ Number n ∷ []) m e = (cc, tt)
last_takes _ m e = absurd cc

abbrev digits_tokens : Option ℤ → List Token
digits_tokens None = Space ∷ Word words.None ∷ []
digits_tokens (Some (pos n)) = Space ∷ Number n ∷ []
digits_tokens (Some (negsuc n)) = []

abbrev AreDigits : Option ℤ → Type 0
AreDigits None = Unit {0}
AreDigits (Some (pos n)) = n ≤ 3
AreDigits (Some (negsuc n)) = ⊥

number_digits : (n : ℕ) (small : Bool) (d : Option ℤ) → nat_le n 3 ≡ small → (cond small (Some (pos n)) None >>= λ digit. Some (Some digit)) ≡ Some d → (Space ∷ Number n ∷ [] ≡ digits_tokens d) × AreDigits d
number_digits n true d is e = subst (λ (x : Option ℤ). (Space ∷ Number n ∷ [] ≡ digits_tokens x) × AreDigits x) (same_Some (Some (pos n)) d e) (refl, grind (arith, nat_tests))
number_digits n false d is e = absurd cc

digits_take : Takes digits_arg digits_tokens AreDigits
digits_take (Space ∷ Word words.None ∷ []) d e = subst (λ (x : Option ℤ). (Space ∷ Word words.None ∷ [] ≡ digits_tokens x) × AreDigits x) (same_Some None d e) (refl, tt)
digits_take (Space ∷ Number n ∷ []) d e = number_digits n (nat_le n 3) d refl e
digits_take _ d e = absurd cc

digits_line : (d : Option ℤ) → AreDigits d → IsLine (Word words.Digits ∷ digits_tokens d) (lines.Digits d)
digits_line None f = (nothing, refl, f)
digits_line (Some (pos n)) f = (nothing, refl, f)
digits_line (Some (negsuc n)) f = absurd f

query_takes : Takes query_arg (λ q. query_tokens q.sql) QueryFits
query_takes ts q e =
    let b = bind_some (text_arg ts) (λ sql. Some (plain_text sql)) q e in
    let t = text_takes ts b.0 b.1 in
    subst (λ (r : QueryText). (ts ≡ query_tokens r.sql) × QueryFits r) (same_Some (plain_text b.0) q b.2) (t.0, (t.1, refl))

asked_takes : (ts : List Token) (q : QueryText) → asked_arg ts ≡ Some q → (asked : Asked) × (ts ≡ asked_tokens asked) × AskedFits asked q
asked_takes (Space ∷ Word words.Raw ∷ rest) q e =
    let t = query_takes rest q e in
    (Raw q.sql, ap (λ (ts : List Token). Space ∷ Word words.Raw ∷ ts) t.0, t.1)
asked_takes (Space ∷ Word words.Query ∷ rest) q e =
    let t = given_takes true rest q e in
    (Kept t.sql t.arguments, ap (λ (ts : List Token). Space ∷ Word words.Query ∷ ts) t.is, (t.unicode, t.fit, t.query))
asked_takes (Space ∷ Word words.Once ∷ rest) q e =
    let t = given_takes false rest q e in
    (Once t.sql t.arguments, ap (λ (ts : List Token). Space ∷ Word words.Once ∷ ts) t.is, (t.unicode, t.fit, t.query))
asked_takes _ q e = absurd cc

asked_again : (asked : Asked) (q : QueryText) → AskedFits asked q → asked_arg (asked_tokens asked) ≡ Some q
asked_again (Raw sql) q f = rw f.0 (ap Some (sym f.1))
asked_again (Kept sql arguments) q f = given_again true sql arguments f.0 f.1 ∙ f.2
asked_again (Once sql arguments) q f = given_again false sql arguments f.0 f.1 ∙ f.2
asked_again (Short n) q f = absurd f
asked_again (Long k) q f = absurd f

asked_apart : (k : Keyword) (asked : Asked) → apart (Word k ∷ asked_tokens asked) ≡ true
asked_apart k (Raw sql) = refl
asked_apart k (Kept sql arguments) = arguments_apart (Text sql) arguments
asked_apart k (Once sql arguments) = arguments_apart (Text sql) arguments
asked_apart k (Short n) = refl
asked_apart k (Long key) = refl

key_takes : (ts : List Token) (k : PgAdvisoryLockKey) → key_arg ts ≡ Some k → (asked : Asked) × (ts ≡ asked_tokens asked) × KeyFits asked k
key_takes (Space ∷ Number n ∷ []) k e = (Short n, refl, sym (same_Some (BigInt (pos n)) k e))
key_takes (Space ∷ Key key ∷ []) k e = (Long key, refl, sym (same_Some key k e))
key_takes _ k e = absurd cc

key_again : (asked : Asked) (k : PgAdvisoryLockKey) → KeyFits asked k → key_arg (asked_tokens asked) ≡ Some k
key_again (Raw sql) k f = absurd f
key_again (Kept sql arguments) k f = absurd f
key_again (Once sql arguments) k f = absurd f
key_again (Short n) k f = ap Some (sym f)
key_again (Long key) k f = ap Some (sym f)

alone_takes : {A : Type 0} (x y : A) (ts : List Token) → alone x ts ≡ Some y → (ts ≡ []) × (x ≡ y)
alone_takes x y [] e = (refl, same_Some x y e)
alone_takes x y (t ∷ ts) e = absurd cc

-- what is made of an argument behind a word has the tokens of its row
made : {A B : Type 0} (Is : List Token → B → Type 0) (read : List Token → Option A) (tokens : A → List Token) (Fits : A → Type 0) (make : A → B) (k : Keyword)
    → Takes read tokens Fits → ((x : A) → Fits x → Is (Word k ∷ tokens x) (make x))
    → (rest : List Token) (y : B) → (read rest >>= λ x. Some (make x)) ≡ Some y → Is (Word k ∷ rest) y
made {A} {B} Is read tokens Fits make k takes is rest y e =
    let b = bind_some (read rest) (λ (x : A). Some (make x)) y e in
    let t = takes rest b.0 b.1 in
    subst (Is (Word k ∷ rest)) (same_Some (make b.0) y b.2) (subst (λ (ts : List Token). Is (Word k ∷ ts) (make b.0)) (sym t.0) (is b.0 t.1))

-- and so has a word alone
bare : {B : Type 0} (Is : List Token → B → Type 0) (x : B) (k : Keyword) → Is (Word k ∷ []) x → (rest : List Token) (y : B) → alone x rest ≡ Some y → Is (Word k ∷ rest) y
bare Is x k is rest y e =
    let t = alone_takes x y rest e in
    subst (Is (Word k ∷ rest)) t.1 (subst (λ (ts : List Token). Is (Word k ∷ ts) x) (sym t.0) is)

-- ---- calls

-- the tokens are those of the call, which may have its values
abbrev pub IsCall : List Token → Call → Type 0
IsCall ts c = (asked : Asked) × (ts ≡ call_tokens asked c) × CallFits asked c

queried : (k : Keyword) (make : QueryText → Call) → ((asked : Asked) (q : QueryText) → AskedFits asked q → IsCall (Word k ∷ asked_tokens asked) (make q))
    → (rest : List Token) (c : Call) → (asked_arg rest >>= λ q. Some (make q)) ≡ Some c → IsCall (Word k ∷ rest) c
queried k make is rest c e =
    let b = bind_some (asked_arg rest) (λ (q : QueryText). Some (make q)) c e in
    let t = asked_takes rest b.0 b.1 in
    subst (IsCall (Word k ∷ rest)) (same_Some (make b.0) c b.2) (subst (λ (ts : List Token). IsCall (Word k ∷ ts) (make b.0)) (sym t.1) (is t.0 b.0 t.2))

keyed : (k : Keyword) (make : PgAdvisoryLockKey → Call) → ((asked : Asked) (key : PgAdvisoryLockKey) → KeyFits asked key → IsCall (Word k ∷ asked_tokens asked) (make key))
    → (rest : List Token) (c : Call) → (key_arg rest >>= λ key. Some (make key)) ≡ Some c → IsCall (Word k ∷ rest) c
keyed k make is rest c e =
    let b = bind_some (key_arg rest) (λ (key : PgAdvisoryLockKey). Some (make key)) c e in
    let t = key_takes rest b.0 b.1 in
    subst (IsCall (Word k ∷ rest)) (same_Some (make b.0) c b.2) (subst (λ (ts : List Token). IsCall (Word k ∷ ts) (make b.0)) (sym t.1) (is t.0 b.0 t.2))

call_takes : (k : CallWord) (rest : List Token) (c : Call) → call_with k rest ≡ Some c → IsCall (Word (words.Call k) ∷ rest) c
call_takes call_words.Execute rest c e = queried (words.Call call_words.Execute) (λ q. calls.Execute q) (λ asked q f. (asked, refl, f)) rest c e
call_takes call_words.ExecuteMany rest c e = queried (words.Call call_words.ExecuteMany) (λ q. calls.ExecuteMany q) (λ asked q f. (asked, refl, f)) rest c e
call_takes call_words.Fetch rest c e = queried (words.Call call_words.Fetch) (λ q. calls.Fetch q) (λ asked q f. (asked, refl, f)) rest c e
call_takes call_words.FetchMany rest c e = queried (words.Call call_words.FetchMany) (λ q. calls.FetchMany q) (λ asked q f. (asked, refl, f)) rest c e
call_takes call_words.FetchAll rest c e = queried (words.Call call_words.FetchAll) (λ q. calls.FetchAll q) (λ asked q f. (asked, refl, f)) rest c e
call_takes call_words.FetchOptional rest c e = queried (words.Call call_words.FetchOptional) (λ q. calls.FetchOptional q) (λ asked q f. (asked, refl, f)) rest c e
call_takes call_words.FetchOne rest c e = queried (words.Call call_words.FetchOne) (λ q. calls.FetchOne q) (λ asked q f. (asked, refl, f)) rest c e
call_takes call_words.Ping rest c e = bare IsCall calls.Ping (words.Call call_words.Ping) (nothing, refl, tt) rest c e
call_takes call_words.Flush rest c e = bare IsCall calls.Flush (words.Call call_words.Flush) (nothing, refl, tt) rest c e
call_takes call_words.Begin rest c e = bare IsCall calls.Begin (words.Call call_words.Begin) (nothing, refl, tt) rest c e
call_takes call_words.BeginWith rest c e = made IsCall query_arg (λ q. query_tokens q.sql) QueryFits (λ q. calls.BeginWith q) (words.Call call_words.BeginWith) query_takes (λ q f. (nothing, refl, f)) rest c e
call_takes call_words.Commit rest c e = bare IsCall calls.Commit (words.Call call_words.Commit) (nothing, refl, tt) rest c e
call_takes call_words.Rollback rest c e = bare IsCall calls.Rollback (words.Call call_words.Rollback) (nothing, refl, tt) rest c e
call_takes call_words.StartRollback rest c e = bare IsCall calls.StartRollback (words.Call call_words.StartRollback) (nothing, refl, tt) rest c e
call_takes call_words.Prepare rest c e = made IsCall prepare_arg preparation_tokens PreparationFits (λ p. calls.Prepare p) (words.Call call_words.Prepare) prepare_takes (λ p f. (nothing, refl, f)) rest c e
call_takes call_words.Clear rest c e = bare IsCall calls.Clear (words.Call call_words.Clear) (nothing, refl, tt) rest c e
call_takes call_words.CopyIn rest c e = made IsCall copying_arg copying_tokens CopyFits (λ q. calls.Chain (chains.CopyIn q)) (words.Call call_words.CopyIn) copying_takes (λ q f. (nothing, refl, f)) rest c e
call_takes call_words.CopyOut rest c e = made IsCall query_arg (λ q. query_tokens q.sql) QueryFits (λ q. calls.CopyOut q) (words.Call call_words.CopyOut) query_takes (λ q f. (nothing, refl, f)) rest c e
call_takes call_words.Describe rest c e = made IsCall text_arg text_tokens IsUnicode (λ s. calls.Chain (chains.Describe s)) (words.Call call_words.Describe) text_takes (λ s f. (nothing, refl, f)) rest c e
call_takes call_words.Lock rest c e = keyed (words.Call call_words.Lock) (λ k. calls.Chain (chains.Lock k)) (λ asked k f. (asked, refl, f)) rest c e
call_takes call_words.TryLock rest c e = keyed (words.Call call_words.TryLock) (λ k. calls.Chain (chains.TryLock k)) (λ asked k f. (asked, refl, f)) rest c e
call_takes call_words.Unlock rest c e = keyed (words.Call call_words.Unlock) (λ k. calls.Chain (chains.Unlock k)) (λ asked k f. (asked, refl, f)) rest c e
call_takes call_words.DropLock rest c e = keyed (words.Call call_words.DropLock) (λ k. calls.Chain (chains.DropLock k)) (λ asked k f. (asked, refl, f)) rest c e

behind_takes : (ts : List Token) (c : Call) → call_arg ts ≡ Some c → (asked : Asked) × (ts ≡ Space ∷ call_tokens asked c) × CallFits asked c
behind_takes (Space ∷ Word (words.Call k) ∷ rest) c e = let t = call_takes k rest c e in (t.0, ap (λ (ts : List Token). Space ∷ ts) t.1, t.2)
behind_takes _ c e = absurd cc

-- and back: a call is read behind a space, is no `most`, and no two of its words stand side by side
pub record IsBehind (asked : Asked) (c : Call) : Type 0 where
  pub read : call_arg (Space ∷ call_tokens asked c) ≡ Some c
  pub plain : most_arg (Space ∷ call_tokens asked c) ≡ Some (None, Space ∷ call_tokens asked c)
  pub parts : apart (Space ∷ call_tokens asked c) ≡ true

pub call_again : (asked : Asked) (c : Call) → CallFits asked c → IsBehind asked c
call_again asked (calls.Execute q) f = record { read = rw (asked_again asked q f) refl; plain = refl; parts = asked_apart (words.Call call_words.Execute) asked }
call_again asked (calls.ExecuteMany q) f = record { read = rw (asked_again asked q f) refl; plain = refl; parts = asked_apart (words.Call call_words.ExecuteMany) asked }
call_again asked (calls.Fetch q) f = record { read = rw (asked_again asked q f) refl; plain = refl; parts = asked_apart (words.Call call_words.Fetch) asked }
call_again asked (calls.FetchMany q) f = record { read = rw (asked_again asked q f) refl; plain = refl; parts = asked_apart (words.Call call_words.FetchMany) asked }
call_again asked (calls.FetchAll q) f = record { read = rw (asked_again asked q f) refl; plain = refl; parts = asked_apart (words.Call call_words.FetchAll) asked }
call_again asked (calls.FetchOptional q) f = record { read = rw (asked_again asked q f) refl; plain = refl; parts = asked_apart (words.Call call_words.FetchOptional) asked }
call_again asked (calls.FetchOne q) f = record { read = rw (asked_again asked q f) refl; plain = refl; parts = asked_apart (words.Call call_words.FetchOne) asked }
call_again asked calls.Ping f = record { read = refl; plain = refl; parts = refl }
call_again asked calls.Flush f = record { read = refl; plain = refl; parts = refl }
call_again asked calls.Begin f = record { read = refl; plain = refl; parts = refl }
call_again asked (calls.BeginWith q) f = record { read = rw f.0 (ap (λ (r : QueryText). Some (calls.BeginWith r)) (sym f.1)); plain = refl; parts = refl }
call_again asked calls.Commit f = record { read = refl; plain = refl; parts = refl }
call_again asked calls.Rollback f = record { read = refl; plain = refl; parts = refl }
call_again asked calls.StartRollback f = record { read = refl; plain = refl; parts = refl }
call_again asked (calls.Release sql) f = absurd f
call_again asked (calls.Prepare p) f = record { read = rw (prepare_again p f) refl; plain = refl; parts = types_apart (Text p.sql) p.types }
call_again asked calls.Clear f = record { read = refl; plain = refl; parts = refl }
call_again asked (calls.CopyOut q) f = record { read = rw f.0 (ap (λ (r : QueryText). Some (calls.CopyOut r)) (sym f.1)); plain = refl; parts = refl }
call_again asked (calls.Chain (chains.Describe s)) f = record { read = rw f refl; plain = refl; parts = refl }
call_again asked (calls.Chain (chains.CopyIn c)) f = record { read = rw (copying_again c f) refl; plain = refl; parts = copying_apart c }
call_again asked (calls.Chain (chains.Lock k)) f = record { read = rw (key_again asked k f) refl; plain = refl; parts = asked_apart (words.Call call_words.Lock) asked }
call_again asked (calls.Chain (chains.TryLock k)) f = record { read = rw (key_again asked k f) refl; plain = refl; parts = asked_apart (words.Call call_words.TryLock) asked }
call_again asked (calls.Chain (chains.Unlock k)) f = record { read = rw (key_again asked k f) refl; plain = refl; parts = asked_apart (words.Call call_words.Unlock) asked }
call_again asked (calls.Chain (chains.DropLock k)) f = record { read = rw (key_again asked k f) refl; plain = refl; parts = asked_apart (words.Call call_words.DropLock) asked }
call_again asked (calls.Describe x) f = absurd f
call_again asked (calls.Feed x) f = absurd f
call_again asked (calls.Run b) f = absurd f
call_again asked (calls.Evict x) f = absurd f
call_again asked (calls.Look x) f = absurd f
call_again asked (calls.Fill x) f = absurd f
call_again asked (calls.Tell x) f = absurd f
call_again asked (calls.CloseAll ns) f = absurd f

-- ---- lines

bounds_take : (a b c : Bool) (m n : ℕ) (l : Line) → cond ((a || b) || c) None (Some (lines.Take m n)) ≡ Some l → (a ≡ false) × (b ≡ false) × (c ≡ false) × (lines.Take m n ≡ l)
bounds_take false false false m n l e = (refl, refl, refl, cc)
bounds_take true b c m n l e = absurd cc
bounds_take false true c m n l e = absurd cc
bounds_take false false true m n l e = absurd cc

bounds_are : (m n : ℕ) → nat_eq m 0 ≡ false → nat_eq n 0 ≡ false → nat_lt 1000000 n ≡ false → (1 ≤ m) × (1 ≤ n) × (n ≤ 1000000)
bounds_are m n a b c = (grind (arith, nat_tests), grind (arith, nat_tests), grind (arith, nat_tests))

bounds_again : (m n : ℕ) → 1 ≤ m → 1 ≤ n → n ≤ 1000000 → take_of m n ≡ Some (lines.Take m n)
bounds_again m n a b c = grind (arith, nat_tests)

two_numbers : (ts us : List Token) (m n : ℕ) → ts ≡ Space ∷ Number m ∷ us → us ≡ number_tokens n → Word words.Take ∷ ts ≡ tokens_of nothing (lines.Take m n)
two_numbers ts us m n e f = ap (λ (vs : List Token). Word words.Take ∷ vs) (e ∙ ap (λ (vs : List Token). Space ∷ Number m ∷ vs) f)

take_takes : (ts : List Token) (l : Line) → take_line ts ≡ Some l → IsLine (Word words.Take ∷ ts) l
take_takes ts l e =
    let b = bind_some (number_arg ts) (λ (bytes : ℕ × List Token). last_number bytes.1 >>= λ times. take_of bytes.0 times) l e in
    let d = bind_some (last_number b.0.1) (λ (times : ℕ). take_of b.0.0 times) l b.2 in
    let all = two_numbers ts b.0.1 b.0.0 d.0 (number_takes ts b.0 b.1) (last_takes b.0.1 d.0 d.1).0 in
    let g = bounds_take (nat_eq b.0.0 0) (nat_eq d.0 0) (nat_lt 1000000 d.0) b.0.0 d.0 l d.2 in
    subst (IsLine (Word words.Take ∷ ts)) g.3 (nothing, all, bounds_are b.0.0 d.0 g.0 g.1 g.2)

-- the tokens of a step behind its polls
abbrev most_tokens : Option ℕ → List Token → List Token
most_tokens None ts = ts
most_tokens (Some n) ts = Space ∷ Word words.Most ∷ Space ∷ Number n ∷ ts

most_takes : (ts : List Token) (x : Option ℕ × List Token) → most_arg ts ≡ Some x → ts ≡ most_tokens x.0 x.1
most_takes (Space ∷ Word words.Most ∷ rest) x e =
    let b = bind_some (number_arg rest) (λ (most : ℕ × List Token). Some (Some most.0, most.1)) x e in
    let is : (Some b.0.0, b.0.1) ≡ x = same_Some _ x b.2 in
    subst (λ (y : Option ℕ × List Token). Space ∷ Word words.Most ∷ rest ≡ most_tokens y.0 y.1) is (ap (λ (us : List Token). Space ∷ Word words.Most ∷ us) (number_takes rest b.0 b.1))
most_takes ts x e = let is : (None, ts) ≡ x = same_Some _ x e in subst (λ (y : Option ℕ × List Token). ts ≡ most_tokens y.0 y.1) is refl

step_tokens : (asked : Asked) (polls : ℕ) (most : Option ℕ) (call : Call) → Word words.Step ∷ Space ∷ Number polls ∷ most_tokens most (Space ∷ call_tokens asked call) ≡ tokens_of asked (lines.Step polls most call)
step_tokens asked polls None call = refl
step_tokens asked polls (Some n) call = refl

same_line : (ts : List Token) (l m : Line) → l ≡ m → IsLine ts l → IsLine ts m
same_line ts l m e h = subst (IsLine ts) e h

step_is : (asked : Asked) (ts us vs : List Token) (polls : ℕ) (most : Option ℕ) (call : Call) → ts ≡ Space ∷ Number polls ∷ us → us ≡ most_tokens most vs → vs ≡ Space ∷ call_tokens asked call
    → Word words.Step ∷ ts ≡ tokens_of asked (lines.Step polls most call)
step_is asked ts us vs polls most call e f g =
    ap (λ (ws : List Token). Word words.Step ∷ ws) (e ∙ ap (λ (ws : List Token). Space ∷ Number polls ∷ ws) (f ∙ ap (most_tokens most) g)) ∙ step_tokens asked polls most call

step_takes : (ts : List Token) (l : Line) → step_line ts ≡ Some l → IsLine (Word words.Step ∷ ts) l
step_takes ts l e =
    let b = bind_some (number_arg ts) (λ (polls : ℕ × List Token). most_arg polls.1 >>= λ most. call_arg most.1 >>= λ call. Some (lines.Step polls.0 most.0 call)) l e in
    let d = bind_some (most_arg b.0.1) (λ (most : Option ℕ × List Token). call_arg most.1 >>= λ call. Some (lines.Step b.0.0 most.0 call)) l b.2 in
    let f = bind_some (call_arg d.0.1) (λ (call : Call). Some (lines.Step b.0.0 d.0.0 call)) l d.2 in
    let t = behind_takes d.0.1 f.0 f.1 in
    let all = step_is t.0 ts b.0.1 d.0.1 b.0.0 d.0.0 f.0 (number_takes ts b.0 b.1) (most_takes b.0.1 d.0 d.1) t.1 in
    same_line (Word words.Step ∷ ts) (lines.Step b.0.0 d.0.0 f.0) l (same_Some (lines.Step b.0.0 d.0.0 f.0) l f.2) (t.0, all, t.2)

link_takes : (ts : List Token) (l : Line) → link_line ts ≡ Some l → IsLine (Word words.Link ∷ ts) l
link_takes (Space ∷ Word words.Upgrade ∷ []) l e = same_line (Word words.Link ∷ Space ∷ Word words.Upgrade ∷ []) lines.LinkUpgrade l (same_Some lines.LinkUpgrade l e) (nothing, refl, tt)
link_takes (Space ∷ Word words.Local ∷ []) l e = same_line (Word words.Link ∷ Space ∷ Word words.Local ∷ []) lines.LinkLocal l (same_Some lines.LinkLocal l e) (nothing, refl, tt)
link_takes _ l e = absurd cc

with_takes : (k : Keyword) (rest : List Token) (l : Line) → line_with k rest ≡ Some l → IsLine (Word k ∷ rest) l
with_takes words.User rest l e = made IsLine text_arg text_tokens IsUnicode (λ s. lines.User s) words.User text_takes (λ s f. (nothing, refl, f)) rest l e
with_takes words.Password rest l e = made IsLine text_arg text_tokens IsUnicode (λ s. lines.Password s) words.Password text_takes (λ s f. (nothing, refl, f)) rest l e
with_takes words.Database rest l e = made IsLine text_arg text_tokens IsUnicode (λ s. lines.Database s) words.Database text_takes (λ s f. (nothing, refl, f)) rest l e
with_takes words.Application rest l e = made IsLine text_arg text_tokens IsUnicode (λ s. lines.Application s) words.Application text_takes (λ s f. (nothing, refl, f)) rest l e
with_takes words.Option rest l e = made IsLine pair_arg pair_tokens ArePair (λ p. lines.Option p.0 p.1) words.Option pair_takes (λ p f. (nothing, refl, f)) rest l e
with_takes words.SslMode rest l e = made IsLine mode_arg mode_tokens anything (λ m. lines.SslMode m) words.SslMode mode_takes (λ m f. (nothing, refl, tt)) rest l e
with_takes words.Cache rest l e = made IsLine last_number number_tokens anything (λ n. lines.Cache n) words.Cache last_takes (λ n f. (nothing, refl, tt)) rest l e
with_takes words.Digits rest l e = made IsLine digits_arg digits_tokens AreDigits (λ d. lines.Digits d) words.Digits digits_take digits_line rest l e
with_takes words.Link rest l e = link_takes rest l e
with_takes words.Nonce rest l e = made IsLine nonce_arg text_tokens IsNonce (λ s. lines.Nonce s) words.Nonce nonce_takes (λ s f. (nothing, refl, f)) rest l e
with_takes words.Server rest l e = made IsLine bytes_arg text_tokens anything (λ s. lines.Server s) words.Server bytes_takes (λ s f. (nothing, refl, tt)) rest l e
with_takes words.Wait rest l e = bare IsLine lines.Wait words.Wait (nothing, refl, tt) rest l e
with_takes words.End rest l e = bare IsLine lines.End words.End (nothing, refl, tt) rest l e
with_takes words.Fail rest l e = bare IsLine lines.Fail words.Fail (nothing, refl, tt) rest l e
with_takes words.Take rest l e = take_takes rest l e
with_takes words.Hold rest l e = bare IsLine lines.Hold words.Hold (nothing, refl, tt) rest l e
with_takes words.Break rest l e = bare IsLine lines.Break words.Break (nothing, refl, tt) rest l e
with_takes words.Start rest l e = made IsLine last_number number_tokens anything (λ n. lines.Start n) words.Start last_takes (λ n f. (nothing, refl, tt)) rest l e
with_takes words.Step rest l e = step_takes rest l e
with_takes _ rest l e = absurd cc

pub from_takes : (ts : List Token) (l : Line) → line_from ts ≡ Some l → IsLine ts l
from_takes (Word k ∷ rest) l e = with_takes k rest l e
from_takes _ l e = absurd cc

-- ---- and back

pub from_again : (asked : Asked) (l : Line) → LineFits asked l → line_from (tokens_of asked l) ≡ Some l
from_again asked lines.Blank f = absurd f
from_again asked (lines.User name) f = rw f refl
from_again asked (lines.Password text) f = rw f refl
from_again asked (lines.Database name) f = rw f refl
from_again asked (lines.Application name) f = rw f refl
from_again asked (lines.Option name value) f = rw (f.0, f.1) refl
from_again asked (lines.SslMode mode) f = refl
from_again asked (lines.Cache capacity) f = refl
from_again asked (lines.Digits None) f = refl
from_again asked (lines.Digits (Some (pos n))) f = let small : nat_le n 3 ≡ true = grind (arith, nat_tests, f) in rw small refl
from_again asked (lines.Digits (Some (negsuc n))) f = absurd f
from_again asked lines.LinkUpgrade f = refl
from_again asked lines.LinkLocal f = refl
from_again asked (lines.Nonce bytes) f = rw (nonce_passes bytes f) refl
from_again asked (lines.Server bytes) f = refl
from_again asked lines.Wait f = refl
from_again asked lines.End f = refl
from_again asked lines.Fail f = refl
from_again asked (lines.Take bytes times) f = bounds_again bytes times f.0 f.1 f.2
from_again asked lines.Hold f = refl
from_again asked lines.Break f = refl
from_again asked (lines.Start polls) f = refl
from_again asked (lines.Step polls None call) f = let c = call_again asked call f in rw (c.plain, c.read) refl
from_again asked (lines.Step polls (Some most) call) f = let c = call_again asked call f in rw c.read refl
