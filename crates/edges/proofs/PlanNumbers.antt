-- The numbers of plans, by computing all of them.
-- Assumes nothing.
use Rattle.octets.specs.Buffers.{same}
use Rattle.octets.specs.Numbers.{be}
use Rattle.protocol.specs.Method.{method_of}
use Rattle.socks5.specs.Address.{v4_at, v6_at, parse_at, is_address}
use Rattle.datagram_parts.specs.Parts.{overhead_of}
use Rattle.plan_pieces.specs.Plans.{fewest, piece_fits, adds, passes, made}
use Rattle.plan.specs.Answers.{limit_answer, argument_answer, capacity_answer, check_answer, room_answer, make_answer}
use Rattle.relay.specs.Plans.{makes_plan, checks_plan}
use Rattle.edges.specs.PlanNumbers.{plan_facts, PlanNumbers}

pub plan-numbers : PlanNumbers
unfolding plan_facts same be method_of v4_at v6_at parse_at is_address overhead_of fewest piece_fits adds passes made limit_answer argument_answer capacity_answer check_answer room_answer make_answer makes_plan checks_plan
plan-numbers = tt
