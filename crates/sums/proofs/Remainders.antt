-- A number may be cut to its remainder before it is multiplied and added to. Assumes nothing.
use Prim.Native.Nat.{ℕ, ◌+◌, ◌*◌, ◌/◌, ◌%◌}
use native.Mathlib.Nat.{add-mul, mul_assoc, mod-add-div, mod-add-mod, add-mod-mod, add-mul-mod_self_left}
use mathlib.Core.Path.{◌≡◌, sym, ap, ◌∙◌}

pub times_mod : (x k m : ℕ) → x % m * k % m ≡ x * k % m
times_mod x k m =
    let e : x * k ≡ x % m * k + m * (x / m * k) =
    ap (λ (t : ℕ). t * k) (sym (mod-add-div x m)) ∙ add-mul (x % m) (m * (x / m)) k ∙ ap (λ (t : ℕ). x % m * k + t) (mul_assoc m (x / m) k) in
    sym (ap (λ (t : ℕ). t % m) e ∙ add-mul-mod_self_left (x % m * k) m (x / m * k))

pub times_plus_mod : (x k v m : ℕ) → (x % m * k + v % m) % m ≡ (x * k + v) % m
times_plus_mod x k v m =
    add-mod-mod (x % m * k) v m
    ∙ sym (mod-add-mod (x % m * k) m v)
    ∙ ap (λ (t : ℕ). (t + v) % m) (times_mod x k m)
    ∙ mod-add-mod (x * k) m v
