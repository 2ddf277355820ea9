use Rattle.std.proofs.Common.{◌<◌, ◌≤◌, length, refl, sym, ◌∙◌, arith}
use Rattle.std.proofs.lemmas.Grind.{common_steps}
use Rattle.pg_auth.proofs.XorLemmas.{xor_step, xor_end}
use Rattle.pg_auth.proofs.xor.xored.Goals as goal

pub loop-i-preserved : goal.loop-i-preserved
loop-i-preserved g c =
    let left : c.loop-i.i < length c.loop-i.left = omega arith in
    let right : c.loop-i.i < length c.args.right.now = omega arith in
    record {
      size = grind (arith, common_steps);
      so_far = xor_step c.loop-i.left c.args.right.now c.loop-i.i _ left right refl ∙ c.loop-i.invariant.so_far;
    }

pub returns : goal.returns
returns g c =
    let end : length c.loop-i.left ≤ c.loop-i.i = omega arith in
    sym (xor_end c.loop-i.left c.args.right.now c.loop-i.i end) ∙ c.loop-i.invariant.so_far
