use Rattle.std.proofs.Common.{◌≡◌, ◌≤◌, length, arith}
use Rattle.std.proofs.lemmas.Result.{err_from_is_err_and}
use Rattle.pg_arguments.proofs.AddLaws.{extends_behind}
use Rattle.pg_arguments.proofs.ElementLaws.{too_many, encodes_array}
use Rattle.pg_arguments.proofs.array.VecEncode.encode.Goals as goal

pub returns-then-length-gt2147483647-clause-cause :
    goal.returns-then-length-gt2147483647-clause-cause
returns-then-length-gt2147483647-clause-cause g c =
    too_many g.T.Typed.described g.T.Encode.encoding c.args.self.items (omega (arith, c.len-length.ensures, c.if-length-gt2147483647.true))

pub returns-in_err-push_elements-clause-kept : goal.returns-in_err-push_elements-clause-kept
returns-in_err-push_elements-clause-kept g c =
    let p = err_from_is_err_and c.from_residual-in_err-push_elements.result c.from_residual-in_err-push_elements.ensures.1 in
    rw p.1 (extends_behind c.args.out.now _ c.push_head.new.out c.push_elements.new.out c.in_ok-push_head.ensures.ok c.in_err-push_elements.ensures.kept)

pub returns-clause-encoding : goal.returns-clause-encoding
returns-clause-encoding g c =
    let le : length c.args.self.items ≤ 2147483647 = omega (arith, c.len-length.ensures, c.if-length-gt2147483647.false) in
    let size : c.len-length.result ≡ length c.args.self.items = omega (arith, c.len-length.ensures) in
    let head = rw (c.in_ok-type_info.ensures.of, size) at c.in_ok-push_head.ensures.ok in
    encodes_array g.T.Typed.described g.T.Encode.encoding c.args.self.items c.args.out.now c.push_head.new.out c.push_elements.new.out le head c.in_ok-push_elements.ensures.ok
