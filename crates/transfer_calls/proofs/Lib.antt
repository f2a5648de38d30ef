mod PartFacts
