use Rattle.std.proofs.lemmas.Result.{err_from_is_err_and}
use Rattle.std.proofs.Common.{◌++◌}
use Rattle.pg_wire.specs.Bytes.{number32}
use Rattle.pg_arguments.specs.Encoded.{plain}
use Rattle.pg_arguments.specs.Arrays.{array_front}
use Rattle.pg_arguments.proofs.AddLaws.{extends_behind}
use Rattle.pg_arguments.proofs.IteratedLaws.{no_number, encodes_items}
use Rattle.pg_arguments.proofs.bind_iter.PgBindIterEncode.encode.Goals as goal

pub returns-in_err-length-clause-kept : goal.returns-in_err-length-clause-kept
returns-in_err-length-clause-kept g c =
    let p = err_from_is_err_and c.from_residual-in_err-length.result c.from_residual-in_err-length.ensures.1 in
    let behind = extends_behind c.push_front.new.out (plain (no_number ++ number32 1)) c.push_bytes.new.self c.push_items.new.out c.in_ok-push_bytes.ensures.ok c.in_err-length.ensures.kept in
    rw p.1 (extends_behind c.args.out.now (array_front c.in_ok-type_info.field-0) c.push_front.new.out c.push_items.new.out c.in_ok-push_front.ensures.ok behind)

pub returns-clause-encoding : goal.returns-clause-encoding
returns-clause-encoding g c =
    let front = rw c.in_ok-type_info.ensures.of at c.in_ok-push_front.ensures.ok in
    let written = rw c.len-place.ensures at c.rewrite.ensures.bytes in
    encodes_items g.I.Item.Typed.described g.I.Item.Encode.encoding (g.I.PgBindIterExt.answers c.args.self.items) c.in_ok-length.length c.args.out.now c.push_front.new.out c.push_bytes.new.self c.push_items.new.out c.rewrite.new.self front c.in_ok-push_bytes.ensures.ok
    c.in_ok-length.ensures.ok written
