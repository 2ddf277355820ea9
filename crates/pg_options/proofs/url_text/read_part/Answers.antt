use Rattle.std.proofs.Common.{◌≡◌, ◌∙◌, subst, inl, sym}
use Rattle.std.specs.Str.{IsUtf8}
use Rattle.percent_encoding.specs.declared.DecodeError.TheVariants.{OutOfMemory}
use Rattle.pg_options.proofs.UrlTextLaws.{decoded_ok, decoded_err}
use Rattle.pg_options.proofs.url_text.read_part.Goals as goal

pub returns-in-Ok : goal.returns-in-Ok
returns-in-Ok c =
    decoded_ok c.args.part.now _ (c.in-Ok.ensures.value ∙ c.percent_decode.ensures.bytes)
    (subst IsUtf8 c.percent_decode.ensures.bytes c.in-Ok.ensures.ok_only_if_utf8)

pub returns-in-Err-Utf8 : goal.returns-in-Err-Utf8
returns-in-Err-Utf8 c =
    inl (decoded_err c.args.part.now (λ u.
    let e : c.in-Err-Utf8.field-0 ≡ OutOfMemory
    = c.in-Err-Utf8.ensures.utf8 (subst IsUtf8 (sym c.percent_decode.ensures.bytes) u) in
    cc))
