-- A text that keeps what it had in front.
use Rattle.std.proofs.Common.{ℕ, ◌≡◌, ◌≤◌, List, ◌++◌, length, take, drop, sym, ap, ◌∙◌, arith}
use Rattle.std.specs.Io.{StartsWith}
use Rattle.std.proofs.lemmas.List.{length-take, take-append-drop, take-append-le}

pub starts_behind : (start now after : List ℕ) → StartsWith now start → StartsWith after now → StartsWith after start
starts_behind start now after h k =
    let rest = drop (length now) after in
    let whole : now ++ rest ≡ after = ap (λ (x : List ℕ). x ++ rest) (sym k) ∙ take-append-drop (length now) after in
    let within : length start ≤ length now = omega (arith, ap length h, length-take (length start) now) in
    ap (take (length start)) (sym whole) ∙ take-append-le (length start) now rest within ∙ h
