-- The lines of a script, read from their tokens.
use Rattle.std.specs.Prelude.{◌∷◌, ◌||◌, [], List, ℕ, Option, Some, None, nat_eq, nat_lt, if◌then◌else◌}
use Rattle.std.specs.Str.{is_utf8}
use Rattle.pg_script.specs.declared.token.Token.{Token}
use Rattle.pg_script.specs.declared.token.Token.TheVariants.{Space, Word}
use Rattle.pg_script.specs.declared.token.Keyword.{Keyword}
use Rattle.pg_script.specs.declared.token.Keyword.TheVariants as words
use Rattle.pg_script.specs.declared.token.CallWord.{CallWord}
use Rattle.pg_script.specs.declared.token.CallWord.TheVariants as call_words
use Rattle.pg_script.specs.declared.step.Call.{Call}
use Rattle.pg_script.specs.declared.step.Call.TheVariants as calls
use Rattle.pg_script.specs.declared.step.Chain.TheVariants as chains
use Rattle.pg_script.specs.declared.line.Line.{Line}
use Rattle.pg_script.specs.declared.line.Line.TheVariants as lines
use Rattle.pg_script.specs.Lexing.{tokens_in}
use Rattle.pg_script.specs.Reading.{◌>>=◌}
use Rattle.pg_script.specs.Arguments.{alone, bytes_arg, text_arg, nonce_arg, mode_arg, pair_arg, number_arg, last_number, key_arg, digits_arg}
use Rattle.pg_script.specs.Asking.{query_arg, asked_arg, prepare_arg, copying_arg}

-- ---- calls

abbrev pub call_with : CallWord → List Token → Option Call
call_with call_words.Execute rest = asked_arg rest >>= λ query. Some (calls.Execute query)
call_with call_words.ExecuteMany rest = asked_arg rest >>= λ query. Some (calls.ExecuteMany query)
call_with call_words.Fetch rest = asked_arg rest >>= λ query. Some (calls.Fetch query)
call_with call_words.FetchMany rest = asked_arg rest >>= λ query. Some (calls.FetchMany query)
call_with call_words.FetchAll rest = asked_arg rest >>= λ query. Some (calls.FetchAll query)
call_with call_words.FetchOptional rest = asked_arg rest >>= λ query. Some (calls.FetchOptional query)
call_with call_words.FetchOne rest = asked_arg rest >>= λ query. Some (calls.FetchOne query)
call_with call_words.Ping rest = alone calls.Ping rest
call_with call_words.Flush rest = alone calls.Flush rest
call_with call_words.Begin rest = alone calls.Begin rest
call_with call_words.BeginWith rest = query_arg rest >>= λ query. Some (calls.BeginWith query)
call_with call_words.Commit rest = alone calls.Commit rest
call_with call_words.Rollback rest = alone calls.Rollback rest
call_with call_words.StartRollback rest = alone calls.StartRollback rest
call_with call_words.Prepare rest = prepare_arg rest >>= λ preparation. Some (calls.Prepare preparation)
call_with call_words.Clear rest = alone calls.Clear rest
call_with call_words.CopyIn rest = copying_arg rest >>= λ copying. Some (calls.Chain (chains.CopyIn copying))
call_with call_words.CopyOut rest = query_arg rest >>= λ query. Some (calls.CopyOut query)
call_with call_words.Describe rest = text_arg rest >>= λ sql. Some (calls.Chain (chains.Describe sql))
call_with call_words.Lock rest = key_arg rest >>= λ key. Some (calls.Chain (chains.Lock key))
call_with call_words.TryLock rest = key_arg rest >>= λ key. Some (calls.Chain (chains.TryLock key))
call_with call_words.Unlock rest = key_arg rest >>= λ key. Some (calls.Chain (chains.Unlock key))
call_with call_words.DropLock rest = key_arg rest >>= λ key. Some (calls.Chain (chains.DropLock key))

abbrev pub call_arg : List Token → Option Call
call_arg (Space ∷ Word (words.Call word) ∷ rest) = call_with word rest
call_arg _ = None

-- ---- lines

-- so many bytes, so many times
abbrev pub take_of : ℕ → ℕ → Option Line
take_of bytes times = if nat_eq bytes 0 || nat_eq times 0 || nat_lt 1000000 times then None else Some (lines.Take bytes times)

abbrev pub take_line : List Token → Option Line
take_line ts = do
  bytes ← number_arg ts
  times ← last_number bytes.1
  take_of bytes.0 times

-- the most items of a step where the word `most` says them, and the tokens behind
abbrev pub most_arg : List Token → Option (Option ℕ × List Token)
most_arg (Space ∷ Word words.Most ∷ rest) = number_arg rest >>= λ most. Some (Some most.0, most.1)
most_arg rest = Some (None, rest)

abbrev pub step_line : List Token → Option Line
step_line ts = do
  polls ← number_arg ts
  most ← most_arg polls.1
  call ← call_arg most.1
  Some (lines.Step polls.0 most.0 call)

-- what is said of the link
abbrev pub link_line : List Token → Option Line
link_line (Space ∷ Word words.Upgrade ∷ []) = Some lines.LinkUpgrade
link_line (Space ∷ Word words.Local ∷ []) = Some lines.LinkLocal
link_line _ = None

abbrev pub line_with : Keyword → List Token → Option Line
line_with words.User rest = text_arg rest >>= λ name. Some (lines.User name)
line_with words.Password rest = text_arg rest >>= λ password. Some (lines.Password password)
line_with words.Database rest = text_arg rest >>= λ name. Some (lines.Database name)
line_with words.Application rest = text_arg rest >>= λ name. Some (lines.Application name)
line_with words.Option rest = pair_arg rest >>= λ pair. Some (lines.Option pair.0 pair.1)
line_with words.SslMode rest = mode_arg rest >>= λ mode. Some (lines.SslMode mode)
line_with words.Cache rest = last_number rest >>= λ capacity. Some (lines.Cache capacity)
line_with words.Digits rest = digits_arg rest >>= λ digits. Some (lines.Digits digits)
line_with words.Link rest = link_line rest
line_with words.Nonce rest = nonce_arg rest >>= λ nonce. Some (lines.Nonce nonce)
line_with words.Server rest = bytes_arg rest >>= λ bytes. Some (lines.Server bytes)
line_with words.Wait rest = alone lines.Wait rest
line_with words.End rest = alone lines.End rest
line_with words.Fail rest = alone lines.Fail rest
line_with words.Take rest = take_line rest
line_with words.Hold rest = alone lines.Hold rest
line_with words.Break rest = alone lines.Break rest
line_with words.Start rest = last_number rest >>= λ polls. Some (lines.Start polls)
line_with words.Step rest = step_line rest
line_with _ rest = None

abbrev pub line_from : List Token → Option Line
line_from (Word word ∷ rest) = line_with word rest
line_from _ = None

-- what a line says, by its bytes
abbrev pub line_in : List ℕ → Option Line
line_in [] = Some lines.Blank
line_in (b ∷ bs) = if nat_eq b 35 then (if is_utf8 (b ∷ bs) then Some lines.Blank else None) else tokens_in (b ∷ bs) >>= line_from
