use Rattle.std.{proofs.{Common.{◌≡◌, ℕ, List, [], ◌∷◌, ◌++◌, ◌∙◌, ap, length, map, arith, append_assoc}, Output.has_written_of_eq}, specs.{Fmt.decimal, Net.Text.ipv4_text, List.join_with_byte}}
use Rattle.settings.proofs.addresses.AddressTextDisplay.fmt.Goals as goal

-- four numbers as the library shows them
dotted : (os : List ℕ) → length os ≡ 4 → ipv4_text os ≡ join_with_byte 46 (map decimal os)
dotted (a ∷ b ∷ c ∷ d ∷ []) four = simp append_assoc
dotted _ four = absurd (omega arith)

pub returns-clause-writes : goal.returns-clause-writes
returns-clause-writes g c = λ plain is_ok.
    let shown : ipv4_text c.from-host.result.octets ≡ join_with_byte 46 (map decimal c.args.self.now.0.0) =
    dotted c.from-host.result.octets (omega arith) ∙ ap (λ (os : List ℕ). join_with_byte 46 (map decimal os)) c.from-host.ensures in
    has_written_of_eq _ _ _ _ _ (ap (λ (host : List ℕ). host ++ (58 ∷ decimal c.args.self.now.0.1)) shown) (c.write.ensures.writes plain is_ok)
