-- What is made so far, with the lists that are left, is all.
use Rattle.std.proofs.Common.{◌≡◌, ◌++◌, drop, map}
use Rattle.mp_journal_laws.specs.Journals.{next_version}
use Rattle.mp_audit.proofs.left.Left.all.Given as goal

abbrev pub invariant-loop-list : goal.invariant-loop-list
invariant-loop-list l =
    record {
      lists : map (λ s. s.now) l.rest.items ++ map (λ v. v.items) (drop l.list-index l.journal) ≡ map (λ v. v.items) l.journal;
      nexts : l.nexts.items ≡ map next_version (map (λ s. s.now) l.rest.items);
    }
