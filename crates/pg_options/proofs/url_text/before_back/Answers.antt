use Rattle.pg_options.proofs.UrlTextLaws.{cut_back}
use Rattle.pg_options.proofs.url_text.before_back.Goals as goal

pub returns : goal.returns
returns c = cut_back c.strip_suffix.result c.args.back.now c.args.text.now c.strip_suffix.ensures.cases
