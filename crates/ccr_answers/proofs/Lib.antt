mod Wholes
