-- Where there is nothing to be written.
use Rattle.std.proofs.Common.{ℕ, ◌≡◌, List, [], ◌++◌, ap, sym, ◌∙◌, append-nil}
use Rattle.node_writing.specs.Pages.{page}
use Rattle.node_writing.proofs.Pages.{page-none}

pub no_lines : (names : ℕ → List ℕ) (level : ℕ) (old : List ℕ) → old ≡ old ++ page names level []
no_lines names level old = sym (ap (λ (x : List ℕ). old ++ x) (page-none names level) ∙ append-nil old)
