-- What is seen of a link over either kind of socket.
use Rattle.pg_stream.specs.declared.socket_link.SocketLink.{SocketLink}
use Rattle.pg_stream.specs.declared.socket_link.SocketLink.TheVariants.{Tcp, Unix}
use Rattle.pg_stream.specs.Links.{LinkSeen}

abbrev pub seen_of_socket : SocketLink → LinkSeen
seen_of_socket (Tcp link) = link
seen_of_socket (Unix link) = link
