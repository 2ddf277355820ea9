use Rattle.std.proofs.Common.{refl, sym, ap, ◌∙◌, Some}
use Rattle.pg_wire.specs.Backend.{CopyInResponse}
use Rattle.pg_call.specs.declared.judging.Part.{Part}
use Rattle.pg_call.proofs.PlaceLaws.{opens_at}
use Rattle.pg_call.proofs.judging.open.Goals as goal

pub returns : goal.returns
returns c =
    let read = c.in_ok-data.data in
    (CopyInResponse read.format read.format_codes, c.in_ok-data.ensures, (opens_at c.args.part read.format read.format_codes c.requires ∙ ap (λ (p : Part). Some p) (sym c.after_opening.ensures), refl))
