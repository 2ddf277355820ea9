use Rattle.std.proofs.Common.{◌∙◌, sym, append_assoc}
use Rattle.pg_options.specs.ToUrl.{address}
use Rattle.pg_options.proofs.options.writing.address.Goals as goal

pub returns : goal.returns
unfolding address
returns c = c.in_ok-address.ensures.ok ∙ sym (simp append_assoc)
