-- The words of a script, which the lexer reads as themselves: one line a word.
use Rattle.std.proofs.Common.{ℕ, ◌≡◌, List, [], ◌∷◌, Bool, true, false, nat_eq, Some, None, refl}
use Rattle.std.specs.Prelude.{◌&&◌, not}
use Rattle.std.specs.List.{list_all}
use Rattle.pg_script.specs.declared.token.Keyword.{Keyword}
use Rattle.pg_script.specs.declared.token.Keyword.TheVariants as words
use Rattle.pg_script.specs.declared.token.CallWord.{CallWord}
use Rattle.pg_script.specs.declared.token.CallWord.TheVariants as call_words
use Rattle.pg_options.specs.SslModes.{ssl_mode_from}
use Rattle.pg_script.specs.Words.{call_spelling, spelling_of, keyword_of, begun, all_bare_words, begins_key, is_digit}

-- a byte that ends no word
abbrev pub goes_on : ℕ → Bool
goes_on b = not (nat_eq b 32) && not (nat_eq b 34)

-- neither a number nor a comment, and one word
abbrev pub is_one_word : List ℕ → Bool
is_one_word [] = false
is_one_word (b ∷ bs) = not (is_digit b) && (not (nat_eq b 35) && list_all goes_on (b ∷ bs))

pub record IsOneWord (k : Keyword) : Type 0 where
  pub shape : is_one_word (spelling_of k) ≡ true
  pub read : keyword_of (spelling_of k) ≡ Some k
  pub no_mode : ssl_mode_from (spelling_of k) ≡ None
  pub no_bare : begun all_bare_words (spelling_of k) ≡ None

pub word_law : (k : Keyword) → IsOneWord k
unfolding keyword_of ssl_mode_from
word_law words.User = record { shape = refl; read = refl; no_mode = refl; no_bare = refl }
word_law words.Password = record { shape = refl; read = refl; no_mode = refl; no_bare = refl }
word_law words.Database = record { shape = refl; read = refl; no_mode = refl; no_bare = refl }
word_law words.Application = record { shape = refl; read = refl; no_mode = refl; no_bare = refl }
word_law words.Option = record { shape = refl; read = refl; no_mode = refl; no_bare = refl }
word_law words.SslMode = record { shape = refl; read = refl; no_mode = refl; no_bare = refl }
word_law words.Cache = record { shape = refl; read = refl; no_mode = refl; no_bare = refl }
word_law words.Digits = record { shape = refl; read = refl; no_mode = refl; no_bare = refl }
word_law words.None = record { shape = refl; read = refl; no_mode = refl; no_bare = refl }
word_law words.Link = record { shape = refl; read = refl; no_mode = refl; no_bare = refl }
word_law words.Upgrade = record { shape = refl; read = refl; no_mode = refl; no_bare = refl }
word_law words.Local = record { shape = refl; read = refl; no_mode = refl; no_bare = refl }
word_law words.Nonce = record { shape = refl; read = refl; no_mode = refl; no_bare = refl }
word_law words.Server = record { shape = refl; read = refl; no_mode = refl; no_bare = refl }
word_law words.Wait = record { shape = refl; read = refl; no_mode = refl; no_bare = refl }
word_law words.End = record { shape = refl; read = refl; no_mode = refl; no_bare = refl }
word_law words.Fail = record { shape = refl; read = refl; no_mode = refl; no_bare = refl }
word_law words.Take = record { shape = refl; read = refl; no_mode = refl; no_bare = refl }
word_law words.Hold = record { shape = refl; read = refl; no_mode = refl; no_bare = refl }
word_law words.Break = record { shape = refl; read = refl; no_mode = refl; no_bare = refl }
word_law words.Start = record { shape = refl; read = refl; no_mode = refl; no_bare = refl }
word_law words.Step = record { shape = refl; read = refl; no_mode = refl; no_bare = refl }
word_law words.Most = record { shape = refl; read = refl; no_mode = refl; no_bare = refl }
word_law words.Raw = record { shape = refl; read = refl; no_mode = refl; no_bare = refl }
word_law words.Query = record { shape = refl; read = refl; no_mode = refl; no_bare = refl }
word_law words.Once = record { shape = refl; read = refl; no_mode = refl; no_bare = refl }
word_law words.Finish = record { shape = refl; read = refl; no_mode = refl; no_bare = refl }
word_law words.Abort = record { shape = refl; read = refl; no_mode = refl; no_bare = refl }
word_law words.Leave = record { shape = refl; read = refl; no_mode = refl; no_bare = refl }
word_law words.Text = record { shape = refl; read = refl; no_mode = refl; no_bare = refl }
word_law words.Bytea = record { shape = refl; read = refl; no_mode = refl; no_bare = refl }
word_law words.Texts = record { shape = refl; read = refl; no_mode = refl; no_bare = refl }
word_law words.Comma = record { shape = refl; read = refl; no_mode = refl; no_bare = refl }
word_law words.Named = record { shape = refl; read = refl; no_mode = refl; no_bare = refl }
word_law words.Colon = record { shape = refl; read = refl; no_mode = refl; no_bare = refl }
word_law words.Name = record { shape = refl; read = refl; no_mode = refl; no_bare = refl }
word_law words.Array = record { shape = refl; read = refl; no_mode = refl; no_bare = refl }
word_law (words.Call call_words.Execute) = record { shape = refl; read = refl; no_mode = refl; no_bare = refl }
word_law (words.Call call_words.ExecuteMany) = record { shape = refl; read = refl; no_mode = refl; no_bare = refl }
word_law (words.Call call_words.Fetch) = record { shape = refl; read = refl; no_mode = refl; no_bare = refl }
word_law (words.Call call_words.FetchMany) = record { shape = refl; read = refl; no_mode = refl; no_bare = refl }
word_law (words.Call call_words.FetchAll) = record { shape = refl; read = refl; no_mode = refl; no_bare = refl }
word_law (words.Call call_words.FetchOptional) = record { shape = refl; read = refl; no_mode = refl; no_bare = refl }
word_law (words.Call call_words.FetchOne) = record { shape = refl; read = refl; no_mode = refl; no_bare = refl }
word_law (words.Call call_words.Ping) = record { shape = refl; read = refl; no_mode = refl; no_bare = refl }
word_law (words.Call call_words.Flush) = record { shape = refl; read = refl; no_mode = refl; no_bare = refl }
word_law (words.Call call_words.Begin) = record { shape = refl; read = refl; no_mode = refl; no_bare = refl }
word_law (words.Call call_words.BeginWith) = record { shape = refl; read = refl; no_mode = refl; no_bare = refl }
word_law (words.Call call_words.Commit) = record { shape = refl; read = refl; no_mode = refl; no_bare = refl }
word_law (words.Call call_words.Rollback) = record { shape = refl; read = refl; no_mode = refl; no_bare = refl }
word_law (words.Call call_words.StartRollback) = record { shape = refl; read = refl; no_mode = refl; no_bare = refl }
word_law (words.Call call_words.Prepare) = record { shape = refl; read = refl; no_mode = refl; no_bare = refl }
word_law (words.Call call_words.Clear) = record { shape = refl; read = refl; no_mode = refl; no_bare = refl }
word_law (words.Call call_words.CopyIn) = record { shape = refl; read = refl; no_mode = refl; no_bare = refl }
word_law (words.Call call_words.CopyOut) = record { shape = refl; read = refl; no_mode = refl; no_bare = refl }
word_law (words.Call call_words.Describe) = record { shape = refl; read = refl; no_mode = refl; no_bare = refl }
word_law (words.Call call_words.Lock) = record { shape = refl; read = refl; no_mode = refl; no_bare = refl }
word_law (words.Call call_words.TryLock) = record { shape = refl; read = refl; no_mode = refl; no_bare = refl }
word_law (words.Call call_words.Unlock) = record { shape = refl; read = refl; no_mode = refl; no_bare = refl }
word_law (words.Call call_words.DropLock) = record { shape = refl; read = refl; no_mode = refl; no_bare = refl }

-- and none begins as a key
call_begins : (c : CallWord) → begins_key (call_spelling c) ≡ false
call_begins call_words.Execute = refl
call_begins _ = refl

pub word_begins : (k : Keyword) → begins_key (spelling_of k) ≡ false
word_begins (words.Call c) = call_begins c
word_begins _ = refl
