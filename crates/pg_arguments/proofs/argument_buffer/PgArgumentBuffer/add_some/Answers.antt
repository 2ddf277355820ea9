use Rattle.std.proofs.Common.{◌≡◌, ◌-◌, length, ap, ◌∙◌, arith}
use Rattle.std.proofs.lemmas.List.{length-append}
use Rattle.std.proofs.lemmas.Result.{err_from_is_err_and}
use Rattle.pg_arguments.specs.Encoded.{Encoded, plain}
use Rattle.pg_arguments.proofs.AddLaws.{extends_behind, appends_extends, adds_image, adds_null, too_long, minus_one}
use Rattle.pg_arguments.proofs.argument_buffer.PgArgumentBuffer.add_some.Goals as goal

pub returns-in_err-encode-clause-kept : goal.returns-in_err-encode-clause-kept
returns-in_err-encode-clause-kept g c =
    let p = err_from_is_err_and c.from_residual-in_err-encode.result c.from_residual-in_err-encode.ensures.1 in
    let kept = extends_behind c.args.self.now (plain minus_one) c.push_bytes.new.self c.encode.new.out c.in_ok-push_bytes.ensures.ok c.in_err-encode.ensures.kept in
    rw p.1 kept

pub returns-then-length-gt-IMAGE_MAX-clause-kept :
    goal.returns-then-length-gt-IMAGE_MAX-clause-kept
returns-then-length-gt-IMAGE_MAX-clause-kept g c =
    extends_behind c.args.self.now (plain minus_one) c.push_bytes.new.self c.encode.new.out c.in_ok-push_bytes.ensures.ok
    (appends_extends (g.T.Encode.encoding c.args.value) _ c.push_bytes.new.self c.encode.new.out c.in_ok-encode.ensures.encoding)

pub returns-then-length-gt-IMAGE_MAX-clause-cause : goal.returns-then-length-gt-IMAGE_MAX-clause-cause
returns-then-length-gt-IMAGE_MAX-clause-cause g c =
    let start = c.len-start.ensures ∙ ap (λ (e : Encoded). length e.bytes) c.in_ok-push_bytes.ensures.ok ∙ length-append c.args.self.now.bytes minus_one in
    too_long (g.T.Encode.encoding c.args.value) c.args.self.now c.push_bytes.new.self c.encode.new.out (c.len.result - c.len-start.result) c.in_ok-push_bytes.ensures.ok (rw c.in-No.is at c.in_ok-encode.ensures.encoding)
    (omega (arith, c.len.ensures, start)) (omega (arith, c.if-length-gt-IMAGE_MAX.true))

pub returns-in-Yes-clause-ok : goal.returns-in-Yes-clause-ok
returns-in-Yes-clause-ok g c =
    let values : c.self.inside.values ≡ c.args.self.now.values = ap (λ (e : Encoded). e.values) c.self.view_is in
    rw (c.count.ensures, values) (adds_null (g.T.Encode.encoding c.args.value) c.args.self.now c.push_bytes.new.self c.encode.new.out c.in_ok-push_bytes.ensures.ok (rw c.in-Yes.is at c.in_ok-encode.ensures.encoding))

pub returns-else-length-gt-IMAGE_MAX-clause-ok : goal.returns-else-length-gt-IMAGE_MAX-clause-ok
returns-else-length-gt-IMAGE_MAX-clause-ok g c =
    let start = c.len-start.ensures ∙ ap (λ (e : Encoded). length e.bytes) c.in_ok-push_bytes.ensures.ok ∙ length-append c.args.self.now.bytes minus_one in
    let size : length c.encode.new.out.bytes - length c.args.self.now.bytes - 4 ≡ c.len.result - c.len-start.result = omega (arith, c.len.ensures, start) in
    let added = adds_image (g.T.Encode.encoding c.args.value) c.args.self.now c.push_bytes.new.self c.encode.new.out _ c.in_ok-push_bytes.ensures.ok (rw c.in-No.is at c.in_ok-encode.ensures.encoding)
    size (omega (arith, c.if-length-gt-IMAGE_MAX.false)) c.rewrite.ensures.inside in
    let values : c.self.inside.values ≡ c.args.self.now.values = ap (λ (e : Encoded). e.values) c.self.view_is in
    rw (c.count-in-No.ensures, c.rewrite.ensures.bytes, c.len-place.ensures, values) added
