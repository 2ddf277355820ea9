use Rattle.std.proofs.Common.{ap, ◌∙◌, List, ℕ, ◌++◌}
use Rattle.pg_migrating.specs.Texts.{text_of}
use Rattle.pg_migrating.proofs.texts.text.Goals as goal

pub returns-in-Ok : goal.returns-in-Ok
returns-in-Ok c = c.in-Ok.ensures ∙ ap (λ (x : List ℕ). x ++ text_of c.args.wording c.args.name.now) c.new-text.ensures.bytes
