-- The statements that are kept, the one that was used last first, and the one that is held (PostgreSQL manual, "Message Flow", "Extended Query").
use Rattle.std.specs.Prelude.{ℕ, Bool, List, [], ◌∷◌, ◌++◌, length, map, take, find, Option, None, option_to_list, bytes_eq, nat_eq}
use Rattle.std.specs.List.{before_first, after_first}
use Rattle.pg_wire.specs.Frontend.{statement_name}
use Rattle.pg_exchanges.specs.Expecting.{Widths}
use Rattle.pg_rule.specs.declared.cache.Entry.{Entry}

-- the one that is held was described to its end, and waits to be kept
pub record Statements : Type 0 where
  pub entries : List Entry
  pub held : Option Entry

abbrev pub none_kept : Statements
none_kept = record { entries = []; held = None }

-- the first one of this text
abbrev pub entry_at : List ℕ → List Entry → Option Entry
entry_at sql entries = find (λ e. bytes_eq e.sql sql) entries

abbrev pub has_number : ℕ → Entry → Bool
has_number number e = nat_eq e.statement number

-- the others, behind the one of this number where it is kept
abbrev pub used : ℕ → List Entry → List Entry
used number entries = option_to_list (find (has_number number) entries) ++ (before_first (has_number number) entries ++ after_first (has_number number) entries)

-- the one that is held comes to the front, and there are so many at most
abbrev pub put : ℕ → Statements → Statements
put capacity kept = record { entries = take capacity (option_to_list kept.held ++ kept.entries); held = None }

-- how many columns they have, by their names
abbrev pub widths_in : List Entry → Widths
widths_in entries = map (λ e. (statement_name e.statement, length e.columns)) entries

-- their names, that of the one that was used last at the end
abbrev pub names_in : List Entry → List (List ℕ)
names_in [] = []
names_in (e ∷ es) = names_in es ++ statement_name e.statement ∷ []
