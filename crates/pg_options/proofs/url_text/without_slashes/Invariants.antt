use Rattle.std.proofs.Common.{◌≡◌, length}
use Rattle.pg_options.specs.UrlTexts.{without_slashes}
use Rattle.pg_options.proofs.url_text.without_slashes.Given as goal

abbrev pub invariant-loop-rest : goal.invariant-loop-rest
invariant-loop-rest l = without_slashes l.rest ≡ without_slashes l.initial.rest

abbrev pub decreases-loop-rest : goal.decreases-loop-rest
decreases-loop-rest l = length l.rest
