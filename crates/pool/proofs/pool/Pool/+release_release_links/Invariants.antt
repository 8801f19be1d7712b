use Rattle.std.proofs.Common.{◌+◌, ◌*◌}
use Rattle.pool.proofs.pool.Pool.+release_release_links.Given as goal

abbrev pub decreases-release : goal.decreases-release
decreases-release l = 2 * l.self.now.used

abbrev pub decreases-release_links : goal.decreases-release_links
decreases-release_links l = 2 * l.self.now.used + 1
