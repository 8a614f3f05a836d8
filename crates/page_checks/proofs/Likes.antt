-- The paths that a path is like, one after the other.
use Rattle.std.proofs.Common.{◌≡◌, ◌∙◌, ◌++◌, ◌∷◌, [], ℕ, List, ap, append_assoc, map, refl, string_bytes}
use Rattle.std.specs.Global.{Global}
use Rattle.std.specs.List.{flat_map}
use Rattle.std.specs.declared.string.String.{String}
use Rattle.page_checks.specs.Findings.{found as one_found}
use Rattle.page_checks.specs.Rows.{Likes, of_like, of_new}
use Rattle.page_checks.specs.declared.findings.Doubt.TheVariants.{NewPlace}
use Rattle.page_checks.specs.declared.findings.Finding.{Finding}
use Rattle.page_checks.specs.declared.findings.What.TheVariants.{Doubtful}

pub each_is : (name : List ℕ) (found : List (String Global))
    → flat_map (λ path. of_like name (string_bytes path)) found ≡ flat_map (of_like name) (map string_bytes found)
each_is name [] = refl
each_is name (path ∷ found) =
    ap (λ (l : List Finding). of_like name (string_bytes path) ++ l) (each_is name found)

-- a path that is to be made, and then those that it is like
pub path_more : (likes : Likes) (name path said again : List ℕ) (found : List (String Global))
    (out mid new : List Finding) → said ≡ path → again ≡ path
    → mid ≡ out ++ one_found (Doubtful NewPlace) name said → map string_bytes found ≡ likes again
    → new ≡ mid ++ flat_map (λ q. of_like name (string_bytes q)) found → new ≡ out ++ of_new likes name path
path_more likes name path said again found out mid new one two was is added =
    added
    ∙ ap (λ (l : List Finding). l ++ flat_map (λ q. of_like name (string_bytes q)) found) was
    ∙ append_assoc out (one_found (Doubtful NewPlace) name said) (flat_map (λ q. of_like name (string_bytes q)) found)
    ∙ ap (λ (s : List ℕ). out
    ++ (one_found (Doubtful NewPlace) name s ++ flat_map (λ q. of_like name (string_bytes q)) found)) one
    ∙ ap (λ (l : List Finding). out ++ (one_found (Doubtful NewPlace) name path ++ l))
    (each_is name found ∙ ap (flat_map (of_like name)) (is ∙ ap likes two))
