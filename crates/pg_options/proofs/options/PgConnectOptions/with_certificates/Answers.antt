use Rattle.pg_options.proofs.WritingLaws.{three_certificates}
use Rattle.pg_options.proofs.options.PgConnectOptions.with_certificates.Goals as goal

pub returns : goal.returns
returns c =
    three_certificates c.args.self.now c.args.url c.in_ok-with_root.with_root c.in_ok-with_client.with_client _ _ _ _
    c.get_ssl_root_cert-root.ensures c.get_ssl_client_cert-client.ensures c.get_ssl_client_key.ensures
    c.in_ok-with_root.ensures c.in_ok-with_client.ensures c.with_certificate-3.ensures
