-- Which statements the server keeps under their names (PostgreSQL manual, "Message Flow", "Extended Query").
use Rattle.std.specs.Prelude.{◌≡◌, ◌≤◌, ◌+◌, ℕ, List, ◌∷◌, ◌++◌, length, map, option_to_list}
use Rattle.std.specs.List.{AllByRecursion, count_by}
use Rattle.pg_wire.specs.Frame.{Frame}
use Rattle.pg_wire.specs.Parts.{is_ready, heard}
use Rattle.pg_wire.specs.Backend.{BackendMessage, backend_frame, HasBackendFrame}
use Rattle.pg_wire.specs.Groups.{EndsReady}
use Rattle.pg_exchanges.specs.Answering.{described, describing, IsNoError}
use Rattle.pg_exchanges.specs.Keeping.{Named, Spares}
use Rattle.pg_columns.specs.Told.{told_by}
use Rattle.pg_rule.specs.declared.cache.Entry.{Entry}
use Rattle.pg_rule.specs.Rules.{IsOrderly}
use Rattle.pg_call.specs.Requests.{Group, name_of}
use Rattle.pg_call.specs.Drains.{after_readys}
use Rattle.pg_play.specs.Places.{Place}

-- a statement that is kept, as the server is to have it
abbrev pub named_of : Entry → Named
named_of e = record { name = name_of e.statement; sql = e.sql; width = length e.columns }

-- One of the groups queued described the statement, the response to it was heard to its end without an error, and no group behind it closes the
-- statement.
pub record IsKeptAt (at : Place) (e : Entry) : Type 0 where
  pub before : List Group
  pub later : List Group
  pub types : List ℕ
  pub groups : at.groups ≡ before ++ describing (name_of e.statement) e.sql types ∷ later
  pub spared : AllByRecursion (Spares (named_of e)) later
  pub told : List BackendMessage
  pub more : List Frame
  pub answered : after_readys (length before) (heard at.frames) ≡ map backend_frame told ++ more
  pub read : length before + 1 ≤ count_by is_ready (heard at.frames)
  pub ends : EndsReady told
  pub has_frames : AllByRecursion HasBackendFrame told
  pub well : AllByRecursion IsNoError told
  pub columns : told_by e.columns ≡ described told

-- So it is with each that is kept, or is held to be kept.
pub record Keeps (at : Place) : Type 0 where
  pub orderly : IsOrderly at.rule
  pub kept : AllByRecursion (IsKeptAt at) (option_to_list at.rule.cache.held ++ at.rule.cache.entries)
