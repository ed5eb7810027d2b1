-- How a connection by order passes: an empty one, one that isn't, and its end.
use Rattle.vlog_read.proofs.Passing.{no_conn, conn_by_order, end_by_order}

pub ruleset by_order = (no_conn, conn_by_order, end_by_order)
