-- What is known of a session that decides which groups its calls queue, and how it moves: one equation each.
use Rattle.std.specs.Prelude.{ℕ, ◌+◌, ◌-◌, ◌<◌, ◌≤◌, ◌^◌, min, length, Option, Some, None, IfSome, ltb, if◌then◌else◌}
use Rattle.std.specs.List.{AllByRecursion}
use Rattle.pg_exchanges.specs.Expecting.{AreDistinct}
use Rattle.pg_rule.specs.declared.cache.Entry.{Entry}
use Rattle.pg_rule.specs.declared.rule.Rule.{Rule}
use Rattle.pg_rule.specs.Caches.{none_kept, used, put, widths_in}

-- a session behind its start-up: no transaction is open, no statement is kept, and the first number is 1
abbrev pub new_rule : ℕ → Rule
new_rule capacity = record { depth = 0; cache = none_kept; next = 1; capacity = min capacity 65536 }

-- ---- transactions and savepoints: one more, and one fewer

abbrev pub opened : Rule → Rule
opened rule = record rule { depth = rule.depth + 1 }

abbrev pub closed : Rule → Rule
closed rule = record rule { depth = rule.depth - 1 }

-- ---- statements: the number of the next one, of which there are so many as four bytes hold, and the rule once it is used up

abbrev pub number_left : Rule → Option ℕ
number_left rule = if ltb rule.next 4294967296 then Some rule.next else None

abbrev pub drawn : Rule → Rule
drawn rule = record rule { next = rule.next + 1 }

-- a kept one is used; one is held; it is kept, or forgotten; all are gone
abbrev pub hit : ℕ → Rule → Rule
hit number rule = record rule { cache = record rule.cache { entries = used number rule.cache.entries } }

abbrev pub holding : Entry → Rule → Rule
holding e rule = record rule { cache = record rule.cache { held = Some e } }

abbrev pub kept : Rule → Rule
kept rule = record rule { cache = put rule.capacity rule.cache }

abbrev pub forgotten : Rule → Rule
forgotten rule = record rule { cache = record rule.cache { held = None } }

abbrev pub cleared : Rule → Rule
cleared rule = record rule { cache = none_kept }

-- ---- what holds of each session

-- as many are kept as may be
abbrev pub IsFull : Rule → Type 0
IsFull rule = rule.capacity ≤ length rule.cache.entries

-- a statement that may be kept next: its number was drawn behind those of all that are kept
abbrev pub IsNewest : Entry → Rule → Type 0
IsNewest e rule = (0 < e.statement) × (e.statement < rule.next) × AllByRecursion (λ f. f.statement < e.statement) rule.cache.entries

-- numbers begin at 1 and take four bytes; no more statements are kept than may be; each has a number that was drawn, and a name of its own; the one
-- that is held is newer than all of them
pub record IsOrderly (rule : Rule) : Type 0 where
  pub starts : 0 < rule.next
  pub ends : rule.next ≤ 2 ^ 32
  pub bounded : rule.capacity ≤ 65536
  pub fits : length rule.cache.entries ≤ rule.capacity
  pub numbered : AllByRecursion (λ e. (0 < e.statement) × (e.statement < rule.next)) rule.cache.entries
  pub distinct : AreDistinct (widths_in rule.cache.entries)
  pub newest : IfSome rule.cache.held (λ e. IsNewest e rule)
