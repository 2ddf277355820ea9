-- Which items and answers a call of each kind has.
use Rattle.std.specs.Prelude.{◌≡◌, ℕ, true, List, Option, Some, None, Result, Ok, Err}
use Rattle.either.specs.declared.Either.{Either}
use Rattle.either.specs.declared.Either.TheVariants.{Left, Right}
use Rattle.pg_wire.specs.declared.error.Error.{Error}
use Rattle.pg_rows.specs.Rows.{RowSeen}
use Rattle.pg_call.specs.declared.query_result.PgQueryResult.{PgQueryResult}
use Rattle.pg_call.specs.declared.statement.Prepared.{Prepared}
use Rattle.pg_call.specs.declared.kind.How.TheVariants as hows
use Rattle.pg_call.specs.declared.kind.Kind.{Kind}
use Rattle.pg_call.specs.declared.kind.Kind.TheVariants as kinds
use Rattle.pg_call.specs.declared.answer.CallItem.TheVariants as items
use Rattle.pg_call.specs.declared.answer.CallAnswer.{CallAnswer}
use Rattle.pg_call.specs.declared.answer.CallAnswer.TheVariants as answers
use Rattle.pg_call.specs.declared.answer.Turn.{Turn}
use Rattle.pg_call.specs.declared.answer.Turn.TheVariants as turns
use Rattle.pg_call.specs.Items.{yields}

abbrev pub AnswerFits : Kind → CallAnswer → Type 0
AnswerFits (kinds.Run hows.Execute) (answers.Total total) = Unit {0}
AnswerFits (kinds.Run hows.FetchAll) (answers.Rows rows) = Unit {0}
AnswerFits (kinds.Run hows.FetchOptional) (answers.OneRow row) = Unit {0}
AnswerFits (kinds.Run hows.FetchOne) (answers.OneRow (Some row)) = Unit {0}
AnswerFits (kinds.Run hows.ExecuteMany) answers.Unit = Unit {0}
AnswerFits (kinds.Run hows.Fetch) answers.Unit = Unit {0}
AnswerFits (kinds.Run hows.FetchMany) answers.Unit = Unit {0}
AnswerFits kinds.Prepare (answers.Statement prepared) = Unit {0}
AnswerFits kinds.Clear answers.Unit = Unit {0}
AnswerFits kinds.Begin answers.Unit = Unit {0}
AnswerFits kinds.Commit answers.Unit = Unit {0}
AnswerFits kinds.Rollback answers.Unit = Unit {0}
AnswerFits kinds.Ping answers.Unit = Unit {0}
AnswerFits kinds.Flush answers.Unit = Unit {0}
AnswerFits kinds.Close answers.Unit = Unit {0}
AnswerFits kinds.CopyOut answers.Unit = Unit {0}
AnswerFits kinds.CopyIn (answers.Total total) = Unit {0}
AnswerFits _ _ = ⊥

-- whether its copy from the client may be open
abbrev pub OpensFor : Kind → Type 0
OpensFor kinds.CopyIn = Unit {0}
OpensFor _ = ⊥

abbrev pub TurnFits : Kind → Turn → Type 0
TurnFits kind (turns.Item item) = yields kind item ≡ true
TurnFits kind (turns.Ok answer) = AnswerFits kind answer
TurnFits kind (turns.Err e) = Unit {0}
TurnFits kind (turns.Opened opened) = OpensFor kind

-- a kind without items and without an answer of its own
abbrev pub TurnIsPlain : Kind → Type 0
TurnIsPlain (kinds.Run how) = ⊥
TurnIsPlain kinds.Describe = ⊥
TurnIsPlain kinds.Prepare = ⊥
TurnIsPlain kinds.CopyOut = ⊥
TurnIsPlain kinds.CopyIn = ⊥
TurnIsPlain _ = Unit {0}

-- ---- what a state of such a call answers, as the core's

abbrev pub total_turn : Result PgQueryResult Error → Turn
total_turn (Ok total) = turns.Ok (answers.Total total)
total_turn (Err e) = turns.Err e

abbrev pub unit_turn : Result (Unit {0}) Error → Turn
unit_turn (Ok u) = turns.Ok answers.Unit
unit_turn (Err e) = turns.Err e

abbrev pub rows_turn : Result (List RowSeen) Error → Turn
rows_turn (Ok rows) = turns.Ok (answers.Rows rows)
rows_turn (Err e) = turns.Err e

abbrev pub optional_turn : Result (Option RowSeen) Error → Turn
optional_turn (Ok row) = turns.Ok (answers.OneRow row)
optional_turn (Err e) = turns.Err e

abbrev pub one_turn : Result RowSeen Error → Turn
one_turn (Ok row) = turns.Ok (answers.OneRow (Some row))
one_turn (Err e) = turns.Err e

abbrev pub statement_turn : Result Prepared Error → Turn
statement_turn (Ok prepared) = turns.Ok (answers.Statement prepared)
statement_turn (Err e) = turns.Err e

abbrev pub piece_turn : Option (Result (List ℕ) Error) → Turn
piece_turn (Some (Ok piece)) = turns.Item (items.Piece piece)
piece_turn (Some (Err e)) = turns.Err e
piece_turn None = turns.Ok answers.Unit

abbrev pub row_turn : Option (Result RowSeen Error) → Turn
row_turn (Some (Ok row)) = turns.Item (items.Row row)
row_turn (Some (Err e)) = turns.Err e
row_turn None = turns.Ok answers.Unit

abbrev pub count_turn : Option (Result PgQueryResult Error) → Turn
count_turn (Some (Ok count)) = turns.Item (items.Count count)
count_turn (Some (Err e)) = turns.Err e
count_turn None = turns.Ok answers.Unit

abbrev pub either_turn : Option (Result (Either PgQueryResult RowSeen) Error) → Turn
either_turn (Some (Ok (Left count))) = turns.Item (items.Count count)
either_turn (Some (Ok (Right row))) = turns.Item (items.Row row)
either_turn (Some (Err e)) = turns.Err e
either_turn None = turns.Ok answers.Unit
