-- Header lines that are named Host, counted by their spans.
use Rattle.std.proofs.Common.{◌≡◌, ◌+◌, ℕ, Bool, List, [], ◌∷◌, map, cond, codes, refl, sym, ap, ◌∙◌}
use Rattle.std.specs.Prelude.{count_by, fold}
use Rattle.std.specs.Str.{str_eq_ignore_ascii_case}
use Rattle.httparse.specs.Grammar.{Field}
use Rattle.httparse.specs.Spans.{header_bytes, name_and_value}
use Rattle.httparse.specs.declared.spans.HeaderSpan.{HeaderSpan}
use Rattle.room_requests.specs.Heads.{is_host}
use Rattle.room_requests.specs.Reading.{is_host_at}

fold_of_map : {X Y A : Type 0} (f : A → Y → A) (g : X → Y) (a : A) (xs : List X)
    → fold f a (map g xs) ≡ fold (λ b x. f b (g x)) a xs
fold_of_map f g a [] = refl
fold_of_map f g a (x ∷ xs) = fold_of_map f g (f a (g x)) xs

count_of_map : {X Y : Type 0} (p : Y → Bool) (f : X → Y) (xs : List X)
    → count_by p (map f xs) ≡ count_by (λ x. p (f x)) xs
count_of_map p f xs = fold_of_map (λ n y. n + cond (p y) 1 0) f 0 xs

abbrev named_host : List ℕ × List ℕ → Bool
named_host line = str_eq_ignore_ascii_case line.0 (codes "host")

-- spans that cover the fields count as these do
pub hosts_of_spans : (front : List ℕ) (lines : List HeaderSpan) (fields : List Field)
    → map (header_bytes front) lines ≡ map name_and_value fields
    → count_by (is_host_at front) lines ≡ count_by is_host fields
hosts_of_spans front lines fields same =
    sym (count_of_map named_host (header_bytes front) lines)
    ∙ ap (count_by named_host) same
    ∙ count_of_map named_host name_and_value fields
