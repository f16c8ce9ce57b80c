-- The session answers no more than the buffer holds.
use Rattle.std.proofs.Common.{rules}
use lib.Seq.{length-take-le}
use Rattle.session_rules.specs.Session.{lines_of}
use Rattle.session_rules.proofs.Sessions.{printed_within}
use Rattle.console.proofs.show.Goals as goal

pub slice_bounds-out-end : goal.slice_bounds-out-end
slice_bounds-out-end g c = printed_within (lines_of c.args.input.now) _ c.cetomuhi_session-n.result c.cetomuhi_session-n.new.out c.cetomuhi_session-n.ensures

pub slice_bounds-write_all-end : goal.slice_bounds-write_all-end
slice_bounds-write_all-end g c =
    let w = printed_within (lines_of c.args.input.now) _ c.cetomuhi_session-n.result c.cetomuhi_session-n.new.out c.cetomuhi_session-n.ensures in
    search (rules, w, length-take-le)
