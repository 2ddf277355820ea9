use Rattle.std.proofs.Common.{◌≡◌, drop}
use Rattle.pg_script.specs.Words.{keyword_among}
use Rattle.pg_script.proofs.words.keyword_among.Given as goal

abbrev pub invariant-loop-keyword : goal.invariant-loop-keyword
invariant-loop-keyword l = keyword_among (drop l.keyword-index l.keywords) l.word ≡ keyword_among l.keywords l.word
