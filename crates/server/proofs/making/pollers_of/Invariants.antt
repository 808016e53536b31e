use Rattle.std.{proofs.Common.{◌≡◌, ◌+◌, ◌++◌, map}, specs.{Vec.Iter.{into_iter_items, into_iter_len}}}
use Rattle.server.specs.Begins.{all_begun}
use Rattle.sizes.specs.Splits.{parts_of}
use Rattle.server.proofs.making.pollers_of.Given as goal

-- those that are made, and then those that the other fronts will be made into
abbrev pub invariant-loop-front : goal.invariant-loop-front
invariant-loop-front g l = record {
  left : l.number + into_iter_len l.front-iterator ≡ parts_of l.split.slots l.split.size;
  begun : l.pollers.items ++ all_begun l.settings l.split l.number (map g.F.Front.seen (into_iter_items l.front-iterator))
      ≡ all_begun l.settings l.split 0 (map g.F.Front.seen l.fn.fronts.items);
}
