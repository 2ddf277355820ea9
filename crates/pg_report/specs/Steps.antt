-- The lines of one step in a report.
use Rattle.std.specs.Prelude.{◌∷◌, ◌++◌, [], List, ℕ, true, false, Option, Some, None, codes, flat_map, length}
use Rattle.std.specs.Fmt.{decimal}
use Rattle.pg_request.specs.declared.progress.CacheStep.{CacheStep}
use Rattle.pg_request.specs.declared.progress.CacheStep.TheVariants as caches
use Rattle.pg_report.specs.declared.outcome.Item.{Item}
use Rattle.pg_report.specs.declared.outcome.Item.TheVariants as items
use Rattle.pg_report.specs.declared.outcome.Answer.{Answer}
use Rattle.pg_report.specs.declared.outcome.Answer.TheVariants as answers
use Rattle.pg_report.specs.declared.outcome.End.{End}
use Rattle.pg_report.specs.declared.outcome.End.TheVariants as ends
use Rattle.pg_report.specs.declared.outcome.Outcome.{Outcome}
use Rattle.pg_report.specs.Bytes.{hex_or_dash, named_number, numbers_or_dash}
use Rattle.pg_report.specs.Errors.{error_text}

-- ---- items

unfoldable pub value_text : Option (List ℕ) → List ℕ
value_text None = codes " null"
value_text (Some bytes) = 32 ∷ hex_or_dash bytes

unfoldable pub item_text : Item → List ℕ
item_text (items.Row values) = codes "row" ++ flat_map value_text values
item_text (items.Count n) = codes "count " ++ decimal n
item_text (items.Piece bytes) = codes "piece " ++ hex_or_dash bytes

unfoldable pub item_line : ℕ → Item → List ℕ
item_line step item = named_number (codes "item") step ++ 32 ∷ item_text item ++ 10 ∷ []

-- ---- the end

unfoldable pub answer_words : Answer → List ℕ
answer_words answers.Unit = codes "ok"
answer_words (answers.Total n) = codes "ok total "
answer_words (answers.Described parameters fields) = codes "ok described "
answer_words (answers.Held true) = codes "ok held t"
answer_words (answers.Held false) = codes "ok held f"

abbrev pub answer_rest : Answer → List ℕ
answer_rest (answers.Total n) = decimal n
answer_rest (answers.Described parameters fields) = numbers_or_dash parameters ++ 32 ∷ decimal (length fields)
answer_rest _ = []

unfoldable pub answer_text : Answer → List ℕ
answer_text answer = answer_words answer ++ answer_rest answer

unfoldable pub end_text : End → List ℕ
end_text (ends.Ok answer) = answer_text answer
end_text (ends.Err error) = codes "error " ++ error_text error
end_text ends.Dropped = codes "dropped"

-- ---- the step

unfoldable pub cache_word : CacheStep → List ℕ
cache_word caches.Same = codes "same"
cache_word caches.Hit = codes "hit"
cache_word caches.Put = codes "put"
cache_word caches.PutEvicting = codes "putevicting"

unfoldable pub progress_text : Outcome → List ℕ
progress_text o = named_number (codes " groups") o.groups ++ named_number (codes " heard") o.heard ++ codes " cache " ++ cache_word o.cache ++ named_number (codes " waits") o.waits ++ named_number (codes " moved") o.moved

unfoldable pub step_line : ℕ → Outcome → List ℕ
step_line step o = named_number (codes "step") step ++ progress_text o ++ 32 ∷ end_text o.end ++ 10 ∷ []

-- the items before their step's line
unfoldable pub step_lines : ℕ → Outcome → List ℕ
step_lines step o = flat_map (item_line step) o.items ++ step_line step o
