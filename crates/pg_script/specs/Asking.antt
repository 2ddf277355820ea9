-- What the calls with a query run, read from its tokens.
use Rattle.std.specs.Prelude.{◌∷◌, ◌++◌, [], List, ℕ, zero, suc, Bool, true, false, length, Option, Some, None}
use Rattle.pg_request.specs.Queries.{QueryText, plain_text}
use Rattle.pg_request.specs.declared.naming.Declared.{Declared}
use Rattle.pg_request.specs.declared.naming.Declared.TheVariants as declared
use Rattle.pg_request.specs.declared.preparation.Preparation.{Preparation}
use Rattle.pg_script.specs.declared.argument.Argument.{Argument}
use Rattle.pg_script.specs.declared.argument.Argument.TheVariants as given
use Rattle.pg_script.specs.declared.step.Copying.{Copying}
use Rattle.pg_script.specs.declared.step.CopyEnd.{CopyEnd}
use Rattle.pg_script.specs.declared.step.CopyEnd.TheVariants as copy_ends
use Rattle.pg_script.specs.declared.token.Token.{Token}
use Rattle.pg_script.specs.declared.token.Token.TheVariants.{Space, Word, Number, Bare, Text}
use Rattle.pg_script.specs.declared.token.Keyword.TheVariants as words
use Rattle.pg_script.specs.Reading.{◌>>=◌}
use Rattle.pg_script.specs.Arguments.{text_in, text_arg}
use Rattle.pg_script.specs.Given.{given_query}

-- more items behind those that are there
abbrev pub in_front : {A B : Type 0} → List A → Option (List A × B) → Option (List A × B)
in_front front o = o >>= λ x. Some (front ++ x.0, x.1)

-- a text behind a comma, and the tokens behind it
abbrev pub comma_text : List Token → Option (List ℕ × List Token)
comma_text (Word words.Comma ∷ Text s ∷ rest) = Some (s, rest)
comma_text _ = None

-- texts behind commas, and the tokens behind them
abbrev pub more_texts : List Token → Option (List (List ℕ) × List Token)
more_texts (Word words.Comma ∷ Text s ∷ rest) = do
  t ← text_in s
  in_front (t ∷ []) (more_texts rest)
more_texts rest = Some ([], rest)

-- texts between commas, or none
abbrev pub texts_at : List Token → Option (List (List ℕ) × List Token)
texts_at (Text s ∷ rest) = do
  t ← text_in s
  in_front (t ∷ []) (more_texts rest)
texts_at rest = Some ([], rest)

-- an argument, and the tokens behind it
abbrev pub argument_at : List Token → Option (Argument × List Token)
argument_at (Space ∷ Bare b ∷ rest) = Some (given.Bare b, rest)
argument_at (Space ∷ Word words.Text ∷ Text s ∷ rest) = text_in s >>= λ t. Some (given.Text t, rest)
argument_at (Space ∷ Word words.Bytea ∷ Text s ∷ rest) = Some (given.Bytea s, rest)
argument_at (Space ∷ Word words.Named ∷ Text n ∷ Word words.Colon ∷ Text s ∷ rest) = text_in n >>= λ name. Some (given.Named name s, rest)
argument_at (Space ∷ Word words.Texts ∷ rest) = texts_at rest >>= λ x. Some (given.Texts x.0, x.1)
argument_at _ = None

-- arguments up to the end, at most so many
abbrev pub arguments_up_to : ℕ → List Token → Option (List Argument)
arguments_up_to n [] = Some []
arguments_up_to zero (t ∷ ts) = None
arguments_up_to (suc n) (t ∷ ts) = do
  first ← argument_at (t ∷ ts)
  others ← arguments_up_to n first.1
  Some (first.0 ∷ others)

-- each has a token of its own
abbrev pub arguments_in : List Token → Option (List Argument)
arguments_in ts = arguments_up_to (length ts) ts

-- a text of SQL
abbrev pub query_arg : List Token → Option QueryText
query_arg ts = text_arg ts >>= λ sql. Some (plain_text sql)

-- a text of SQL, and arguments
abbrev pub given_arg : Bool → List Token → Option QueryText
given_arg persistent (Space ∷ Text s ∷ rest) = do
  sql ← text_in s
  arguments ← arguments_in rest
  given_query persistent sql arguments
given_arg persistent _ = None

-- the one or the other behind its word
abbrev pub asked_arg : List Token → Option QueryText
asked_arg (Space ∷ Word words.Raw ∷ rest) = query_arg rest
asked_arg (Space ∷ Word words.Query ∷ rest) = given_arg true rest
asked_arg (Space ∷ Word words.Once ∷ rest) = given_arg false rest
asked_arg _ = None

-- the type of a parameter, by its OID or by its name, or of arrays by the name of their elements, and the tokens behind it
abbrev pub type_at : List Token → Option (Declared × List Token)
type_at (Space ∷ Number oid ∷ rest) = Some (declared.Number oid, rest)
type_at (Space ∷ Word words.Name ∷ Text s ∷ rest) = text_in s >>= λ name. Some (declared.Name name, rest)
type_at (Space ∷ Word words.Array ∷ Text s ∷ rest) = text_in s >>= λ name. Some (declared.ArrayOf name, rest)
type_at _ = None

-- types up to the end
abbrev pub types_in : List Token → Option (List Declared)
types_in [] = Some []
types_in (Space ∷ Number oid ∷ rest) = types_in rest >>= λ others. Some (declared.Number oid ∷ others)
types_in (Space ∷ Word words.Name ∷ Text s ∷ rest) = text_in s >>= λ name. types_in rest >>= λ others. Some (declared.Name name ∷ others)
types_in (Space ∷ Word words.Array ∷ Text s ∷ rest) = text_in s >>= λ name. types_in rest >>= λ others. Some (declared.ArrayOf name ∷ others)
types_in _ = None

-- a text of SQL, and the types of its first parameters
abbrev pub prepare_arg : List Token → Option Preparation
prepare_arg (Space ∷ Text s ∷ rest) = do
  sql ← text_in s
  types ← types_in rest
  Some (record { sql = sql; types = types })
prepare_arg _ = None

-- a piece of data, and the tokens behind it
abbrev pub piece_arg : List Token → Option (List ℕ × List Token)
piece_arg (Space ∷ Text piece ∷ rest) = Some (piece, rest)
piece_arg _ = None

-- pieces of data up to the end
abbrev pub pieces_in : List Token → Option (List (List ℕ))
pieces_in [] = Some []
pieces_in (Space ∷ Text piece ∷ rest) = pieces_in rest >>= λ others. Some (piece ∷ others)
pieces_in _ = None

-- what becomes of a copy, and the tokens behind it
abbrev pub copy_end_at : List Token → Option (CopyEnd × List Token)
copy_end_at (Word words.Finish ∷ rest) = Some (copy_ends.Finish, rest)
copy_end_at (Word words.Leave ∷ rest) = Some (copy_ends.Leave, rest)
copy_end_at (Word words.Abort ∷ Space ∷ Text s ∷ rest) = text_in s >>= λ message. Some (copy_ends.Abort message, rest)
copy_end_at _ = None

-- a text of SQL that copies from the client, what becomes of it, and its data
abbrev pub copying_arg : List Token → Option Copying
copying_arg (Space ∷ Text s ∷ Space ∷ rest) = do
  sql ← text_in s
  end ← copy_end_at rest
  pieces ← pieces_in end.1
  Some (record { sql = sql; pieces = pieces; end = end.0 })
copying_arg _ = None
