-- What is asked of a connection, as far as migrations ask it.
use Rattle.pg_call.specs.declared.request.Request.{Request}
use Rattle.pg_call.specs.declared.request.Request.TheVariants as requests
use Rattle.pg_call.specs.Requests.{raw}
use Rattle.pg_conn.specs.Connections.{commit_of}
use Rattle.pg_migrating.specs.declared.demand.Wish.{Wish}
use Rattle.pg_migrating.specs.declared.demand.Wish.TheVariants as wishes

-- the request that it is
abbrev pub request_by : Wish → Request
request_by (wishes.Query how query) = raw how query
request_by (wishes.Begin depth) = requests.Begin depth
request_by (wishes.Commit depth) = commit_of depth
