use Rattle.std.proofs.Common.{◌∙◌}
use Rattle.pg_options.proofs.UrlTextLaws.{ipv4_read}
use Rattle.pg_options.proofs.url_text.is_ipv4.Goals as goal

pub returns : goal.returns
returns c = c.is_ok.ensures.value ∙ ipv4_read c.args.text.now c.parse.result c.parse.ensures.value
