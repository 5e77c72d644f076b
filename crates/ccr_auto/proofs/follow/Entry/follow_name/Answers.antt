use Rattle.std.proofs.Common.{rules, ◌≡◌, ◌++◌, string_bytes, append_assoc}
use Rattle.ccr_auto.specs.Follow.{marker}
use Rattle.ccr_auto.proofs.Markers.{name_for-marked}
use Rattle.ccr_auto.proofs.follow.Entry.follow_name.Goals as goal

pub returns : goal.returns
returns c =
    let front = string_bytes c.self.inside.front in
    let back = string_bytes c.self.inside.back in
    let whole : c.new.result ≡ (front ++ c.args.index.now) ++ back = search rules in
    rw (← c.self.view_is) (name_for-marked c.args.index.now (front ++ (marker ++ back)) front back c.new.result c.self.invariant (simp append_assoc at whole))
