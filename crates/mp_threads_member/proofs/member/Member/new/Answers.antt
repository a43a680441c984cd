use Rattle.mp_outline.specs.JobOutline.{outline_of}
use Rattle.mp_threads_member.proofs.Stays.{new_at_ends, new_at_seat}
use Rattle.mp_threads_member.proofs.member.Member.new.Goals as goal
use Rattle.mp_model.specs.Tables.{table_of}

pub invariant_of-result : goal.invariant_of-result
invariant_of-result g c =
    let o = outline_of (table_of g.Q.Query.facts g.J.Naming.job) g.J.Naming.job in
    let r = c.requires in
    record {
      post = new_at_ends o c.args.worker.number c.args.worker.log c.args.post r.begins.0 r.ends.0 r.ends.1 r.no_mail;
      hub = new_at_seat o c.args.worker c.args.hub r.begins.0 r.begins.1 r.seat r.row r.version;
    }
